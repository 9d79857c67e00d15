-- Why an action is not enabled (Lynch 14.1), by the queue that takes part in it.
use Rattle.std.specs.Prelude.{◌≡◌, Bool, true, false, List, [], ◌∷◌, Option, Some, None, slice_get}
use Rattle.std.specs.List.{list_any}
use Rattle.ioa_values.specs.DataOrder.{same}
use Rattle.ioa_actions.specs.Actions.{same_node_action}
use Rattle.ioa_actions.specs.declared.action.Action.{Action}
use Rattle.ioa_actions.specs.declared.action.Action.TheVariants as action
use Rattle.ioa_actions.specs.declared.component.Component.{Component}
use Rattle.ioa_actions.specs.declared.component.ChannelKind.{ChannelKind}
use Rattle.ioa_actions.specs.declared.component.ChannelKind.TheVariants.{Ordered, Unordered}
use Rattle.ioa_channels.specs.Queues.{QueueState, same_item}
use Rattle.ioa_channels.specs.declared.queue.Item.{Item}
use Rattle.ioa_channels.specs.declared.queue.Item.TheVariants as item
use Rattle.ioa_compose.specs.Composition.{find_conf}
use Rattle.ioa_compose.specs.declared.configuration.Conf.{Conf}
use Rattle.ioa_compose.specs.declared.configuration.Conf.TheVariants.{Queue}
use Rattle.ioa_reasons.specs.PlainReasons as told
use Rattle.ioa_reasons.specs.PlainReasons.{PlainReason}

-- the configuration of the queue among participants, which comes first of two
abbrev pub queue_among : List Component → List Conf → Option Conf
queue_among [] cs = None
queue_among (n ∷ []) cs = None
queue_among (q ∷ n ∷ more) cs = find_conf q cs

-- whether an action takes this item out of its queue
abbrev pub is_taken_out : Item → Action → Bool
is_taken_out (item.Message n) (action.Receive m i j) = same n m
is_taken_out (item.Stimulus b) (action.Stimulus a) = same_node_action b a
is_taken_out x a = false

-- a queue of this name is there, which has no item
pub record IsEmptyQueue (there : Option Conf) (k : Component) : Type 0 where
  pub queue : QueueState
  pub is : there ≡ Some (Queue queue)
  pub name : queue.component ≡ k
  pub nothing : queue.items ≡ []

-- whether an action takes the first item of a queue or none: a receive takes any from a queue that keeps no order
abbrev pub is_by_order : ChannelKind → Action → Bool
is_by_order Ordered a = true
is_by_order Unordered (action.Send m i j) = true
is_by_order Unordered (action.Receive m i j) = false
is_by_order Unordered (action.Local a) = true
is_by_order Unordered (action.Stimulus a) = true

-- whether the message that an action receives is among items
abbrev pub is_among : Action → List Item → Bool
is_among (action.Receive m i j) items = list_any (same_item (item.Message m)) items
is_among (action.Send m i j) items = true
is_among (action.Local a) items = true
is_among (action.Stimulus a) items = true

-- a queue of this name is there, which hands out its first item alone; and this is the first, and not the one that the
-- action takes out
pub record IsOtherFirst (there : Option Conf) (a : Action) (k : Component) (x : Item) : Type 0 where
  pub queue : QueueState
  pub is : there ≡ Some (Queue queue)
  pub name : queue.component ≡ k
  pub in_order : is_by_order queue.kind a ≡ true
  pub first : slice_get queue.items 0 ≡ Some x
  pub other : is_taken_out x a ≡ false

-- a queue of this name is there, which keeps no order and has not the message that the action receives
pub record IsAbsent (there : Option Conf) (a : Action) (k : Component) : Type 0 where
  pub queue : QueueState
  pub is : there ≡ Some (Queue queue)
  pub name : queue.component ≡ k
  pub kind : queue.kind ≡ Unordered
  pub absent : is_among a queue.items ≡ false

-- a reason is true of the queue that takes part in an action; that of the node says nothing of it
abbrev pub IsReason : Option Conf → Action → PlainReason → Type 0
IsReason there a (told.empty k) = IsEmptyQueue there k
IsReason there a (told.first k x) = IsOtherFirst there a k x
IsReason there a (told.absent k) = IsAbsent there a k
IsReason there a told.node = Unit {0}
IsReason there a (told.falsified test t vs) = Unit {0}
