use Rattle.std.proofs.Common.{◌≡◌, drop}
use lib.Pointwise.{pointwise}
use Rattle.ioa_explain.specs.FurtherFaults.{is_left}
use Rattle.ioa_explain.proofs.further.is_without.Given as goal

-- what is left to compare decides
abbrev pub invariant-loop-position : goal.invariant-loop-position
invariant-loop-position l = pointwise is_left l.left l.text ≡ pointwise is_left (drop l.position l.left) (drop l.position l.text)
