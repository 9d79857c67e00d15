use Rattle.std.proofs.Common.{arith}
use Rattle.ioa_commits.proofs.Advances.{none_advanced}
use Rattle.ioa_commits.proofs.holding.advance_parts.Goals as goal

pub returns-else-slot-len-clause-advanced : goal.returns-else-slot-len-clause-advanced
returns-else-slot-len-clause-advanced g c = none_advanced _ _ _ (omega (arith, c.if-slot-len.false, c.len.ensures))
