use Rattle.std.proofs.Common.{◌≡◌, ◌≤◌, length, take}
use Rattle.std.specs.Prelude.{vec_capacity}
use Rattle.ioa_values.proofs.finite_set.FiniteSet.to_vec.Given as goal

-- the members so far are those gone by, and there is room for all
abbrev pub invariant-loop-position : goal.invariant-loop-position
invariant-loop-position l = (l.members.items ≡ take l.position l.self) × (length l.self ≤ vec_capacity l.members)
