-- What is taken out of a script (profile).
use Rattle.std.specs.Prelude.{◌≡◌, ℤ, if◌then◌else◌, List, ◌++◌, Option, Some, None, map}
use Rattle.std.specs.List.{filter_map}
use Rattle.std.specs.Ordering.{int_eq}
use Rattle.ioa_actions.specs.declared.component.Component.TheVariants.{Script}
use Rattle.ioa_actions.specs.declared.action.NodeAction.{NodeAction}
use Rattle.ioa_actions.specs.declared.action.Action.{Action}
use Rattle.ioa_actions.specs.declared.action.Action.TheVariants as action
use Rattle.ioa_system.specs.Systems.{ScriptParts}
use Rattle.ioa_transitions.specs.Entries.{PlainEntry, actions_of}
use Rattle.ioa_channels.specs.declared.queue.Item.TheVariants.{Stimulus}
use Rattle.ioa_channels.specs.Queues.{QueueState}
use Rattle.ioa_compose.specs.declared.configuration.Conf.{Conf}
use Rattle.ioa_compose.specs.declared.configuration.Conf.TheVariants.{Queue}
use Rattle.ioa_compose.specs.Composition.{find_conf}

-- the stimulus that an action takes out of the script of node k
abbrev pub stimulus_taken : ℤ → Action → Option NodeAction
stimulus_taken k (action.Send m i j) = None
stimulus_taken k (action.Receive m i j) = None
stimulus_taken k (action.Local a) = None
stimulus_taken k (action.Stimulus a) = if int_eq k a.node then Some a else None

-- the stimuli taken out of the script of node k, in order
abbrev pub stimuli_taken : ℤ → List Action → List NodeAction
stimuli_taken k actions = filter_map (stimulus_taken k) actions

-- each script has handed out, in order, a first part of what it held at the start, and holds the rest
abbrev pub TakesInOrder : List Conf → List PlainEntry → List Conf → Type 0
TakesInOrder start entries confs =
    (k : ℤ) (q : QueueState) → find_conf (Script k) start ≡ Some (Queue q) →
    (r : QueueState) × (find_conf (Script k) confs ≡ Some (Queue r))
    × (q.items ≡ map Stimulus (stimuli_taken k (actions_of entries)) ++ r.items)

-- a declared script has handed out, in order, a beginning of its stimuli, and its queue holds the rest
pub record TakesBeginning (entries : List PlainEntry) (confs : List Conf) (c : ScriptParts) : Type 0 where
  pub queue : QueueState
  pub held : find_conf (Script c.node) confs ≡ Some (Queue queue)
  pub order : map Stimulus c.stimuli ≡ map Stimulus (stimuli_taken c.node (actions_of entries)) ++ queue.items
