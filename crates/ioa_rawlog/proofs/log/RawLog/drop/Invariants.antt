use Rattle.std.proofs.Common.{◌≡◌, ◌+◌, length}
use Rattle.ioa_rawlog.proofs.log.RawLog.drop.Given as goal

-- as many blocks are left as there are rounds
abbrev pub invariant-loop : goal.invariant-loop
invariant-loop g l = l.counter + length l.nodes.items ≡ l.end
