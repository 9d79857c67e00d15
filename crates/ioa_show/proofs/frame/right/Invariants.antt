use Rattle.std.proofs.Common.{◌≡◌, drop}
use Rattle.std.specs.Prelude.{max}
use Rattle.ioa_show.specs.Frames.{widest}
use Rattle.ioa_show.proofs.frame.right.Given as goal

-- the widest line so far, and those that are left
abbrev pub invariant-loop-invariant : goal.invariant-loop-invariant
invariant-loop-invariant l = max l.longest (widest (drop l.invariant-index l.invariants)) ≡ widest l.invariants
