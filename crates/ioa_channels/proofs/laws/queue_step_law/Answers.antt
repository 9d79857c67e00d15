use Rattle.ioa_channels.proofs.QueueSteps.{queue_answer-is, queue_answer-from}
use Rattle.ioa_channels.proofs.laws.queue_step_law.Goals as goal

pub returns : goal.returns
returns c = λ q a r. (queue_answer-is q a r, queue_answer-from q a r)
