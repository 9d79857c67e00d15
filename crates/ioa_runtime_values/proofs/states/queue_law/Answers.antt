use Rattle.std.proofs.Common.{rules}
use Rattle.ioa_runtime_values.proofs.QueueValues.{runtime_queue}
use Rattle.ioa_runtime_values.proofs.states.queue_law.Goals as goal

pub returns : goal.returns
returns c = runtime_queue c.args.queue.now.items c.items.result.0.now c.items.result.1.now c.items.ensures c.messages_law.ensures (search rules)
