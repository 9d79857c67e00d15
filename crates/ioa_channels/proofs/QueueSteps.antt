-- What the runtime returns for a queue is its step.
use Rattle.std.proofs.Common.{◌≡◌, List, Result, Ok, Err, refl, sym, ap}
use Rattle.std.specs.Prelude.{◌↔◌}
use Rattle.ioa_values.specs.Outcome.{and_then}
use Rattle.ioa_actions.specs.declared.component.ChannelKind.{ChannelKind}
use Rattle.ioa_actions.specs.declared.component.ChannelKind.TheVariants.{Ordered, Unordered}
use Rattle.ioa_actions.specs.declared.action.Action.{Action}
use Rattle.ioa_actions.specs.declared.action.Action.TheVariants as action
use Rattle.ioa_actions.specs.declared.fault.StepFault.{StepFault}
use Rattle.ioa_channels.specs.declared.queue.Item.{Item}
use Rattle.ioa_channels.specs.declared.queue.Item.TheVariants.{Message, Stimulus}
use Rattle.ioa_channels.specs.Queues.{QueueState, queue_state, queue_answer, items_left, without_item, with_last}
use Rattle.ioa_channels.specs.QueueSteps.{IsQueueStep, ComesOut, LosesItem}
use Rattle.ioa_channels.proofs.Items.{items_behind_is, without_equal_is}

-- what is left of items if one comes out
left_is : (x : Item) (o : ChannelKind) (xs ys : List Item) → (items_left x o xs ≡ Ok ys) ↔ ComesOut x o xs ys
left_is (Message m) Ordered xs ys = items_behind_is (Message m) xs ys
left_is (Message m) Unordered xs ys = without_equal_is (Message m) xs ys
left_is (Stimulus a) o xs ys = items_behind_is (Stimulus a) xs ys

-- an item that the runtime takes out comes out
pub loses : (x : Item) (q r : QueueState) → without_item x q ≡ Ok r → LosesItem x q r
loses x q r h = by_items (items_left x q.kind q.items) refl h
  where
    by_items : (s : Result (List Item) StepFault) → items_left x q.kind q.items ≡ s →
        and_then s (λ items. Ok (queue_state q.component q.kind items)) ≡ Ok r → LosesItem x q r
    by_items (Ok items) e h =
        let same_state : queue_state q.component q.kind items ≡ r = cc in
        let out : ComesOut x q.kind q.items items = (left_is x q.kind q.items items).0 e in
        rw (← same_state) (out, refl)
    by_items (Err f) e h = absurd (cc)

-- and the runtime takes out each item that comes out
pub is_lost : (x : Item) (q r : QueueState) → LosesItem x q r → without_item x q ≡ Ok r
is_lost x q r e =
    let out : items_left x q.kind q.items ≡ Ok r.items = (left_is x q.kind q.items r.items).1 e.0 in
    rw out (ap Ok (sym e.1))

-- what the runtime returns for a queue is its step
pub queue_answer-is : (q : QueueState) (a : Action) (r : QueueState) → queue_answer q a ≡ Ok r → IsQueueStep a q r
queue_answer-is q (action.Send m i j) r h = let same_state : with_last (Message m) q ≡ r = cc in sym same_state
queue_answer-is q (action.Receive m i j) r h = loses (Message m) q r h
queue_answer-is q (action.Local a) r h = absurd (cc)
queue_answer-is q (action.Stimulus a) r h = loses (Stimulus a) q r h

-- and each step of a queue is returned
pub queue_answer-from : (q : QueueState) (a : Action) (r : QueueState) → IsQueueStep a q r → queue_answer q a ≡ Ok r
queue_answer-from q (action.Send m i j) r e = ap Ok (sym e)
queue_answer-from q (action.Receive m i j) r e = is_lost (Message m) q r e
queue_answer-from q (action.Local a) r e = absurd e
queue_answer-from q (action.Stimulus a) r e = is_lost (Stimulus a) q r e
