use Rattle.std.proofs.Common.{◌≡◌, ◌≤◌, None, map, replicate, vec_len, vec_capacity}
use Rattle.std.specs.Option.{option_copied}
use Rattle.ioa_receipts.proofs.table.Table.empty.Given as goal

-- so many free places so far, and room for the others
abbrev pub invariant-loop-index : goal.invariant-loop-index
invariant-loop-index l =
    (map option_copied l.places.items ≡ replicate l._index None) × (vec_len l.places ≡ l._index)
    × (l.length ≤ vec_capacity l.places)
