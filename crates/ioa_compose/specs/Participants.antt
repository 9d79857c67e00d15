-- The components that take part in an action (Lynch 8.2; the profile's for scripts).
use Rattle.std.specs.Prelude.{Bool, false, ◌&&◌, List, [], ◌∷◌}
use Rattle.std.specs.Ordering.{int_eq}
use Rattle.ioa_actions.specs.declared.component.Component.{Component}
use Rattle.ioa_actions.specs.declared.component.Component.TheVariants.{Node, Channel, Script}
use Rattle.ioa_actions.specs.ActionParts.{node_of}
use Rattle.ioa_actions.specs.declared.action.Action.{Action}
use Rattle.ioa_actions.specs.declared.action.Action.TheVariants.{Send, Receive, Local, Stimulus}
use Rattle.ioa_compose.specs.declared.parties.Parties.{Parties}
use Rattle.ioa_compose.specs.declared.parties.Parties.TheVariants.{One, Two}

-- the components that have an action in their signature, the queue first
abbrev pub participants_of : Action → List Component
participants_of (Send m i j) = Channel i j ∷ Node i ∷ []
participants_of (Receive m i j) = Channel i j ∷ Node j ∷ []
participants_of (Local a) = Node a.node ∷ []
participants_of (Stimulus a) = Script a.node ∷ Node a.node ∷ []

-- the components that a value of the code lists
abbrev pub participant_list : Parties → List Component
participant_list (One k) = k ∷ []
participant_list (Two k l) = k ∷ l ∷ []

-- whether a component has an action in its signature (Lynch 8.2): a node the actions of its own, a channel the sends
-- and the receives between its two ends (Lynch 14.1), and a script the stimuli of its node (profile)
abbrev pub takes_part : Component → Action → Bool
takes_part (Node k) a = int_eq k (node_of a)
takes_part (Channel i j) (Send m from to) = int_eq i from && int_eq j to
takes_part (Channel i j) (Receive m from to) = int_eq i from && int_eq j to
takes_part (Channel i j) (Local a) = false
takes_part (Channel i j) (Stimulus a) = false
takes_part (Script k) (Send m from to) = false
takes_part (Script k) (Receive m from to) = false
takes_part (Script k) (Local a) = false
takes_part (Script k) (Stimulus a) = int_eq k a.node
