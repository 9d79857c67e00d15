-- Steps of a queue (Lynch 14.1).
use Rattle.std.specs.Prelude.{◌≡◌, false, List, [], ◌∷◌, ◌++◌}
use Rattle.std.specs.List.{list_any}
use Rattle.ioa_actions.specs.declared.action.Action.{Action}
use Rattle.ioa_actions.specs.declared.action.Action.TheVariants as action
use Rattle.ioa_channels.specs.declared.queue.Item.{Item}
use Rattle.ioa_channels.specs.declared.queue.Item.TheVariants.{Message, Stimulus}
use Rattle.ioa_actions.specs.declared.component.ChannelKind.{ChannelKind}
use Rattle.ioa_actions.specs.declared.component.ChannelKind.TheVariants.{Ordered, Unordered}
use Rattle.ioa_channels.specs.Queues.{QueueState, same_item}

-- the first item that is equal to this one is taken out of items (profile)
pub record TakesOut (x : Item) (xs ys : List Item) : Type 0 where
  pub before : List Item
  pub behind : List Item
  pub whole : xs ≡ before ++ x ∷ behind
  pub rest : ys ≡ before ++ behind
  pub first : list_any (same_item x) before ≡ false

-- an item comes out of items: it is the first (Lynch 14.1), but of a queue that keeps no order a message comes out
-- wherever it is, the first that is equal to it (profile)
abbrev pub ComesOut : Item → ChannelKind → List Item → List Item → Type 0
ComesOut (Message m) Ordered xs ys = xs ≡ Message m ∷ ys
ComesOut (Message m) Unordered xs ys = TakesOut (Message m) xs ys
ComesOut (Stimulus a) o xs ys = xs ≡ Stimulus a ∷ ys

-- a queue that loses an item, and nothing else changes
abbrev pub LosesItem : Item → QueueState → QueueState → Type 0
LosesItem x q r = ComesOut x q.kind q.items r.items × (r ≡ record q { items = r.items })

-- a step of a queue: a send puts its message behind the others, a receive takes its message out (Lynch 14.1), and a
-- stimulus takes itself out (profile); no other action is a queue's
abbrev pub IsQueueStep : Action → QueueState → QueueState → Type 0
IsQueueStep (action.Send m i j) q r = r ≡ record q { items = q.items ++ Message m ∷ [] }
IsQueueStep (action.Receive m i j) q r = LosesItem (Message m) q r
IsQueueStep (action.Local a) q r = ⊥
IsQueueStep (action.Stimulus a) q r = LosesItem (Stimulus a) q r
