-- Queues: of the messages under way on a channel (Lynch 14.1), and of the stimuli left in a script (profile).
use Rattle.std.specs.Prelude.{Bool, false, if◌then◌else◌, List, [], ◌∷◌, ◌++◌, map}
use Rattle.std.specs.Prelude.{Option, Some, None, Result, Ok, Err, refl}
use Rattle.std.specs.Coded.{Coded, code_by, coded×, coded_list}
use Rattle.std.specs.Option.{option_map}
use Rattle.ioa_values.specs.Outcome.{and_then}
use Rattle.ioa_values.specs.Data.{Data}
use Rattle.ioa_values.specs.DataOrder.{same}
use Rattle.ioa_actions.specs.Actions.{same_node_action}
use Rattle.ioa_actions.specs.contracts.component.Component as component
use Rattle.ioa_actions.specs.declared.component.Component.{Component}
use Rattle.ioa_actions.specs.declared.action.NodeAction.{NodeAction}
use Rattle.ioa_actions.specs.declared.action.Action.{Action}
use Rattle.ioa_actions.specs.declared.action.Action.TheVariants as action
use Rattle.ioa_channels.specs.contracts.queue.Item as item
use Rattle.ioa_actions.specs.contracts.component.ChannelKind as kind
use Rattle.ioa_actions.specs.declared.component.ChannelKind.{ChannelKind}
use Rattle.ioa_actions.specs.declared.component.ChannelKind.TheVariants.{Ordered, Unordered}
use Rattle.ioa_channels.specs.declared.queue.Item.{Item}
use Rattle.ioa_channels.specs.declared.queue.Item.TheVariants.{Message, Stimulus}
use Rattle.ioa_actions.specs.declared.fault.StepFault.{StepFault}
use Rattle.ioa_actions.specs.declared.fault.StepFault.TheVariants.{NotEnabled, NotMine}

-- a queue's component, whether it keeps the order of its items, and these from the first to the last
pub record QueueState : Type 0 where
  pub component : Component
  pub kind : ChannelKind
  pub items : List Item

abbrev pub queue_state : Component → ChannelKind → List Item → QueueState
queue_state k o items = record { component = k; kind = o; items = items }

abbrev pub queue_state_code : Coded QueueState
queue_state_code =
    code_by (Component × (ChannelKind × List Item))
    (coded× component.the_row.coded (coded× kind.the_row.coded (coded_list item.the_row.coded)))
    (λ q. (q.component, (q.kind, q.items))) (λ p. queue_state p.0 p.1.0 p.1.1) (λ _. refl)

-- the items of a queue that holds these stimuli (profile), and behind them these messages (Lynch 14.1)
abbrev pub queue_items : List NodeAction → List Data → List Item
queue_items stimuli messages = map Stimulus stimuli ++ map Message messages

-- a queue's messages, if it holds nothing else (Lynch 14.1)
abbrev pub messages_of : List Item → Option (List Data)
messages_of [] = Some []
messages_of (Message m ∷ more) = option_map (λ (ms : List Data). m ∷ ms) (messages_of more)
messages_of (Stimulus a ∷ more) = None

-- whether two items are the same
abbrev pub same_item : Item → Item → Bool
same_item (Message m) (Message n) = same m n
same_item (Message m) (Stimulus b) = false
same_item (Stimulus a) (Message n) = false
same_item (Stimulus a) (Stimulus b) = same_node_action a b

-- the queue with one more item at the end (Lynch 14.1)
abbrev pub with_last : Item → QueueState → QueueState
with_last x q = record q { items = q.items ++ x ∷ [] }

-- the items behind this item, if it is the first (Lynch 14.1)
abbrev pub items_behind : Item → List Item → Result (List Item) StepFault
items_behind x [] = Err NotEnabled
items_behind x (y ∷ more) = if same_item y x then Ok more else Err NotEnabled

-- the items without the first that is equal to this one, if there is one
abbrev pub without_equal : Item → List Item → Result (List Item) StepFault
without_equal x [] = Err NotEnabled
without_equal x (y ∷ more) =
    if same_item x y then Ok more else and_then (without_equal x more) (λ items. Ok (y ∷ items))

-- what is left of items if this one comes out: it is to be the first (Lynch 14.1), but of a queue that keeps no order
-- any message may come out (profile)
abbrev pub items_left : Item → ChannelKind → List Item → Result (List Item) StepFault
items_left (Message m) Ordered items = items_behind (Message m) items
items_left (Message m) Unordered items = without_equal (Message m) items
items_left (Stimulus a) o items = items_behind (Stimulus a) items

-- the queue without this item
abbrev pub without_item : Item → QueueState → Result QueueState StepFault
without_item x q = and_then (items_left x q.kind q.items) (λ items. Ok (record q { items = items }))

-- the messages without the first that is equal to this one, if there is one (form)
abbrev pub without_message : Data → List Data → Result (List Data) StepFault
without_message m [] = Err NotEnabled
without_message m (n ∷ more) =
    if same m n then Ok more else and_then (without_message m more) (λ ms. Ok (n ∷ ms))

-- the result of an action at a queue: its new state, or why there is none (Lynch 8.1 and 14.1)
abbrev pub queue_answer : QueueState → Action → Result QueueState StepFault
queue_answer q (action.Send m i j) = Ok (with_last (Message m) q)
queue_answer q (action.Receive m i j) = without_item (Message m) q
queue_answer q (action.Local a) = Err NotMine
queue_answer q (action.Stimulus a) = without_item (Stimulus a) q
