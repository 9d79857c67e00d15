use Rattle.std.proofs.Common.{◌≡◌}
use Rattle.ioa_values.proofs.sequence.Sequence.from_vec.Given as goal

-- the items so far are the values gone by
abbrev pub invariant-loop-value : goal.invariant-loop-value
invariant-loop-value l = l.items ≡ l.yielded
