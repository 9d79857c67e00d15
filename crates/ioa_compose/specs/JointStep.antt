-- Steps of a composition (Lynch 8.2), for any steps of its components: those of the book, or those that the runtime
-- finds.
use Rattle.std.specs.Prelude.{◌≡◌, true, false, List, Some, Ok}
use Rattle.std.specs.List.{IsDistinct}
use Rattle.ioa_actions.specs.declared.component.Component.{Component}
use Rattle.ioa_compose.specs.declared.configuration.Conf.{Conf}
use Rattle.ioa_compose.specs.declared.configuration.Conf.TheVariants.{Node}
use Rattle.ioa_transitions.specs.Entries.{PlainEntry}
use Rattle.ioa_transitions.specs.NodeState.{NodeState}
use Rattle.ioa_transitions.specs.NodeStep.{IsState}
use Rattle.ioa_compose.specs.Composition.{component_names, conf_answer, find_conf}
use Rattle.ioa_compose.specs.Participants.{takes_part}
use Rattle.ioa_actions.specs.ComponentOrder.{same_component}
use Rattle.ioa_compose.specs.Steps.{FitsStep}

-- a state of the composition (Lynch 8.2): no component is there twice, and each node is in a state of its own
pub record IsJointState (cs : List Conf) : Type 0 where
  pub once : IsDistinct same_component (component_names cs)
  pub nodes : (k : Component) (c : NodeState) → find_conf k cs ≡ Some (Node c) → IsState c

-- a component has a step by an entry
pub record HasStep (step : PlainEntry → Conf → Conf → Type 0) (e : PlainEntry) (k : Component) (cs : List Conf)
    : Type 0 where
  pub old : Conf
  pub new : Conf
  pub before : find_conf k cs ≡ Some old
  pub step_of : step e old new

-- a component takes its step by an entry
pub record TakesStep (step : PlainEntry → Conf → Conf → Type 0) (e : PlainEntry) (k : Component) (cs next : List Conf)
    : Type 0 where
  pub old : Conf
  pub new : Conf
  pub before : find_conf k cs ≡ Some old
  pub step_of : step e old new
  pub after : find_conf k next ≡ Some new

-- a joint step: each component that has the action is there and takes its own step by it, and all others stay (Lynch
-- 8.2)
pub record IsJointStep (step : PlainEntry → Conf → Conf → Type 0) (e : PlainEntry) (cs next : List Conf)
    : Type 0 where
  pub participants : (k : Component) → takes_part k e.action ≡ true → TakesStep step e k cs next
  pub others : (k : Component) → takes_part k e.action ≡ false → find_conf k next ≡ find_conf k cs
  pub same_names : component_names next ≡ component_names cs

-- each component that has an entry's action has a step by the entry (Lynch 8.2)
abbrev pub AllHaveSteps : (PlainEntry → Conf → Conf → Type 0) → PlainEntry → List Conf → Type 0
AllHaveSteps step e cs = (k : Component) → takes_part k e.action ≡ true → HasStep step e k cs

-- the runtime's step of a component leads from one configuration to another (profile)
abbrev pub HasAnswer : PlainEntry → Conf → Conf → Type 0
HasAnswer e c d = conf_answer e c ≡ Ok d

-- every number that the participants of a joint step meet lies within 64 bits (profile)
abbrev pub FitsJointStep : PlainEntry → List Conf → Type 0
FitsJointStep e cs =
    (k : Component) (c : Conf) → takes_part k e.action ≡ true → find_conf k cs ≡ Some c → FitsStep e c
