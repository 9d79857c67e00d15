-- Which nodes, channels and scripts have an action.
use Rattle.std.proofs.Common.{◌≡◌, ℤ, Bool, true, false, ◌||◌, Some, None, refl, if◌then◌else◌}
use Rattle.std.specs.Prelude.{◌↔◌, ◌&&◌}
use Rattle.std.specs.Option.{is_some}
use Rattle.std.specs.Ordering.{int_eq}
use Rattle.std.proofs.lemmas.Bool.Decides.{Decides-int_eq}
use Rattle.ioa_values.specs.Data.{Data}
use Rattle.ioa_actions.specs.ActionParts.{node_of}
use Rattle.ioa_actions.specs.declared.component.Component.TheVariants.{Node, Channel, Script}
use Rattle.ioa_actions.specs.declared.action.NodeAction.{NodeAction}
use Rattle.ioa_actions.specs.declared.action.Action.{Action}
use Rattle.ioa_actions.specs.declared.action.Action.TheVariants.{Send, Receive, Local, Stimulus}
use Rattle.ioa_compose.specs.Participants.{takes_part}
use Rattle.ioa_compose.specs.Channels.{message_sent, message_received}
use Rattle.ioa_compose.specs.Scripts.{stimulus_taken}

-- a node has the actions of its own
pub has_own_node : (k : ℤ) (a : Action) → (takes_part (Node k) a ≡ true) ↔ (k ≡ node_of a)
has_own_node k a = Decides-int_eq k (node_of a)

first_told : (t : Bool) (m : Data) → t ≡ (is_some (if t then Some m else None) || false)
first_told true m = refl
first_told false m = refl

second_told : (t : Bool) (m : Data) → t ≡ (false || is_some (if t then Some m else None))
second_told true m = refl
second_told false m = refl

-- a channel has what is sent and what is received on it
pub has_messages : (i j : ℤ) (a : Action) → takes_part (Channel i j) a ≡ (is_some (message_sent i j a) || is_some (message_received i j a))
has_messages i j (Send m from to) = first_told (int_eq i from && int_eq j to) m
has_messages i j (Receive m from to) = second_told (int_eq i from && int_eq j to) m
has_messages i j (Local a) = refl
has_messages i j (Stimulus a) = refl

taken_told : (t : Bool) (a : NodeAction) → t ≡ is_some (if t then Some a else None)
taken_told true a = refl
taken_told false a = refl

-- a script has what is taken out of it
pub has_stimuli : (k : ℤ) (a : Action) → takes_part (Script k) a ≡ is_some (stimulus_taken k a)
has_stimuli k (Send m from to) = refl
has_stimuli k (Receive m from to) = refl
has_stimuli k (Local a) = refl
has_stimuli k (Stimulus a) = taken_told (int_eq k a.node) a
