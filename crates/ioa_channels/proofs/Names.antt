-- A queue's step keeps the name of its component.
use Rattle.std.proofs.Common.{◌≡◌, List, Result, Ok, Err, ap, sym}
use Rattle.ioa_values.specs.Outcome.{and_then}
use Rattle.ioa_actions.specs.declared.action.Action.{Action}
use Rattle.ioa_actions.specs.declared.action.Action.TheVariants.{Send, Receive, Local, Stimulus}
use Rattle.ioa_actions.specs.declared.fault.StepFault.{StepFault}
use Rattle.ioa_channels.specs.declared.queue.Item.{Item}
use Rattle.ioa_channels.specs.declared.queue.Item.TheVariants as item
use Rattle.ioa_channels.specs.Queues.{QueueState, queue_state, queue_answer, items_left, with_last, without_item}

-- what comes out of a queue leaves its name
component-without_item : (x : Item) (q r : QueueState) → without_item x q ≡ Ok r → r.component ≡ q.component
component-without_item x q r h = kept (items_left x q.kind q.items) h
  where
    kept : (s : Result (List Item) StepFault) →
        and_then s (λ items. Ok (queue_state q.component q.kind items)) ≡ Ok r → r.component ≡ q.component
    kept (Ok items) e =
        let same_state : queue_state q.component q.kind items ≡ r = cc in
        ap (λ (s : QueueState). s.component) (sym same_state)
    kept (Err f) e = absurd (cc)

-- a queue's step keeps its name
pub component-queue_answer : (q : QueueState) (a : Action) (r : QueueState) → queue_answer q a ≡ Ok r →
    r.component ≡ q.component
component-queue_answer q (Send m i j) r h =
    let same_state : with_last (item.Message m) q ≡ r = cc in ap (λ (s : QueueState). s.component) (sym same_state)
component-queue_answer q (Receive m i j) r h = component-without_item (item.Message m) q r h
component-queue_answer q (Local a) r h = absurd (cc)
component-queue_answer q (Stimulus a) r h = component-without_item (item.Stimulus a) q r h
