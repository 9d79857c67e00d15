-- What is sent on a channel and what it hands out (Lynch 14.1).
use Rattle.std.specs.Prelude.{◌≡◌, ℤ, if◌then◌else◌, List, [], Option, Some, None}
use Rattle.std.specs.List.{filter_map}
use Rattle.ioa_values.specs.Data.{Data}
use Rattle.ioa_actions.specs.declared.component.Component.TheVariants.{Channel}
use Rattle.ioa_actions.specs.declared.action.Action.{Action}
use Rattle.ioa_actions.specs.declared.action.Action.TheVariants.{Send, Receive, Local, Stimulus}
use Rattle.ioa_source.specs.declared.declaration.Channel as declaration
use Rattle.ioa_transitions.specs.Entries.{PlainEntry, actions_of}
use Rattle.ioa_compose.specs.declared.configuration.Conf.{Conf}
use Rattle.ioa_compose.specs.declared.configuration.Conf.TheVariants.{Queue}
use Rattle.ioa_channels.specs.Queues.{QueueState}
use Rattle.ioa_channels.specs.HandedOut.{IsHandedOut}
use Rattle.ioa_actions.specs.ComponentOrder.{same_component}
use Rattle.ioa_compose.specs.Composition.{find_conf}

-- the message that an action sends on channel i -> j
abbrev pub message_sent : ℤ → ℤ → Action → Option Data
message_sent i j (Send m from to) = if same_component (Channel i j) (Channel from to) then Some m else None
message_sent i j (Receive m from to) = None
message_sent i j (Local a) = None
message_sent i j (Stimulus a) = None

-- the message that an action receives from channel i -> j
abbrev pub message_received : ℤ → ℤ → Action → Option Data
message_received i j (Send m from to) = None
message_received i j (Receive m from to) = if same_component (Channel i j) (Channel from to) then Some m else None
message_received i j (Local a) = None
message_received i j (Stimulus a) = None

-- the messages sent on channel i -> j, in order
abbrev pub messages_sent : ℤ → ℤ → List Action → List Data
messages_sent i j actions = filter_map (message_sent i j) actions

-- the messages received from channel i -> j, in order
abbrev pub messages_received : ℤ → ℤ → List Action → List Data
messages_received i j actions = filter_map (message_received i j) actions

-- each channel has handed out, in order, a first part of what it held at the start and what was then sent on it, and
-- holds the rest (Lynch 14.1); one that keeps no order has handed out and holds each message as often as it held it at
-- the start and it was then sent (profile)
abbrev pub HandsOut : List Conf → List PlainEntry → List Conf → Type 0
HandsOut start entries confs =
    (i j : ℤ) (q : QueueState) → find_conf (Channel i j) start ≡ Some (Queue q) →
    (r : QueueState) × (find_conf (Channel i j) confs ≡ Some (Queue r))
    × IsHandedOut q.kind q.items (messages_sent i j (actions_of entries))
    (messages_received i j (actions_of entries)) r.items

-- each channel that was empty has handed out, in order, a first part of what was sent on it, and holds the rest (Lynch
-- 14.1); one that keeps no order has handed out and holds each message as often as it was sent (profile)
abbrev pub HandsOutFromEmpty : List Conf → List PlainEntry → List Conf → Type 0
HandsOutFromEmpty start entries confs =
    (i j : ℤ) (q : QueueState) → find_conf (Channel i j) start ≡ Some (Queue q) → q.items ≡ [] →
    (r : QueueState) × (find_conf (Channel i j) confs ≡ Some (Queue r))
    × IsHandedOut q.kind [] (messages_sent i j (actions_of entries))
    (messages_received i j (actions_of entries)) r.items

-- a declared channel delivers: it has handed out, in order, a beginning of what was sent on it, and its queue holds the
-- rest (Lynch 14.1); one declared `unordered` has handed out and holds each message as often as it was sent (profile)
pub record Delivers (entries : List PlainEntry) (confs : List Conf) (c : declaration.Channel) : Type 0 where
  pub queue : QueueState
  pub held : find_conf (Channel c.from c.to) confs ≡ Some (Queue queue)
  pub handed_out : IsHandedOut c.kind [] (messages_sent c.from c.to (actions_of entries))
      (messages_received c.from c.to (actions_of entries)) queue.items
