use Rattle.std.proofs.Common.{◌≡◌, nat_eq, drop}
use lib.Pointwise.{pointwise}
use Rattle.ioa_values.proofs.word.are_same.Given as goal

abbrev pub invariant-loop-position : goal.invariant-loop-position
invariant-loop-position l = pointwise nat_eq (drop l.position l.bytes) (drop l.position l.others)
    ≡ pointwise nat_eq l.bytes l.others
