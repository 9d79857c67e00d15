use Rattle.std.proofs.Common.{arith}
use Rattle.ioa_commits.proofs.Raises.{nothing_there}
use Rattle.ioa_commits.proofs.holding.raise_in.Goals as goal

pub returns-else-slot-len : goal.returns-else-slot-len
returns-else-slot-len g c =
    nothing_there c.args.action.now c.args.held.now.items c.args.slot (omega (arith, c.if-slot-len.false, c.len.ensures))
