use Rattle.std.proofs.Common.{◌≡◌, length}
use Rattle.ioa_workers.proofs.gathering.handed_in.Given as goal

-- there is a share for each slot gone by
abbrev pub invariant-loop-slot : goal.invariant-loop-slot
invariant-loop-slot g l = length l.shares.items ≡ length l.yielded
