use Rattle.std.proofs.Common.{◌≡◌, ◌≤◌, length, take}
use Rattle.std.specs.Prelude.{vec_capacity}
use Rattle.ioa_values.proofs.value.copies.Given as goal

-- the copies so far are the values gone by, and there is room for all
abbrev pub invariant-loop-value : goal.invariant-loop-value
invariant-loop-value l = (l.items.items ≡ take l.value-index l.values) × (length l.values ≤ vec_capacity l.items)
