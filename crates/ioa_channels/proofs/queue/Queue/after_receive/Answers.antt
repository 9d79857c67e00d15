use Rattle.ioa_channels.proofs.Receives.{came_out, stays_in}
use Rattle.ioa_channels.proofs.queue.Queue.after_receive.Goals as goal

pub returns-clause-out : goal.returns-clause-out
returns-clause-out c = came_out c.args.item.now c.args.self.now c.after_item.result c.after_item.ensures

pub returns-clause-not_out : goal.returns-clause-not_out
returns-clause-not_out c = stays_in c.args.item.now c.args.self.now c.after_item.result c.after_item.ensures
