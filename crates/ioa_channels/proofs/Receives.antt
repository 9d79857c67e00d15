-- What is known of a queue that an item has come out of, or has not.
use Rattle.std.proofs.Common.{◌≡◌, List, Result, Ok, Err, IfOk, inl, inr, refl}
use Rattle.ioa_values.specs.Outcome.{Answers}
use Rattle.ioa_actions.specs.declared.fault.StepFault.{StepFault}
use Rattle.ioa_actions.specs.declared.fault.StepFault.TheVariants.{Memory, NotEnabled}
use Rattle.ioa_channels.specs.declared.queue.Item.{Item}
use Rattle.ioa_channels.specs.Queues.{QueueState, queue_state, without_item}
use Rattle.ioa_channels.specs.QueueSteps.{ComesOut}
use Rattle.ioa_channels.proofs.QueueSteps.{loses, is_lost}

-- what is left is what was there without the item
pub came_out : (x : Item) (q : QueueState) (result : Result QueueState StepFault) →
    Answers Memory (λ (r : QueueState). r) result (without_item x q) →
    IfOk result (λ r. ComesOut x q.kind q.items r.items)
came_out x q (Ok r) answer = (loses x q r answer).0
came_out x q (Err e) answer = tt

-- an item that is refused cannot come out
pub stays_in : (x : Item) (q : QueueState) (result : Result QueueState StepFault) →
    Answers Memory (λ (r : QueueState). r) result (without_item x q) → result ≡ Err NotEnabled →
    (rest : List Item) → ComesOut x q.kind q.items rest → ⊥
stays_in x q (Ok r) answer fault rest out = absurd (cc)
stays_in x q (Err e) (inl memory) fault rest out = let same_fault : e ≡ NotEnabled = cc in absurd (cc)
stays_in x q (Err e) (inr none) fault rest out =
    let left : QueueState = queue_state q.component q.kind rest in
    let found : without_item x q ≡ Ok left = is_lost x q left (out, refl) in
    absurd (cc)
