use Rattle.std.proofs.Common.{◌≡◌, length, take}
use Rattle.ioa_copies.proofs.copying.copy_values.Given as goal

-- the values so far are those that are copied
abbrev pub invariant-loop-position : goal.invariant-loop-position
invariant-loop-position l = record {
  as_many : length l.to.items ≡ length l.from;
  copied : take l.position l.to.items ≡ take l.position l.from;
}
