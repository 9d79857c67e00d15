use Rattle.std.proofs.Common.{◌≡◌, drop}
use Rattle.ioa_values.specs.Data.{items_of, entries_of}
use Rattle.ioa_values.specs.DataOrder.{items_cmp, entries_cmp}
use Rattle.ioa_values.proofs.+comparing.Given as goal

-- what is left decides as the whole does
abbrev pub invariant-value::compare_values-loop-position : goal.invariant-value::compare_values-loop-position
invariant-value::compare_values-loop-position l =
    items_cmp (items_of (drop l.position l.values.items)) (items_of (drop l.position l.others.items))
    ≡ items_cmp (items_of l.values.items) (items_of l.others.items)

abbrev pub invariant-sequence::Sequence::compare-loop-position : goal.invariant-sequence::Sequence::compare-loop-position
invariant-sequence::Sequence::compare-loop-position l =
    items_cmp (items_of (drop l.position l.self)) (items_of (drop l.position l.other))
    ≡ items_cmp (items_of l.self) (items_of l.other)

abbrev pub invariant-finite_set::FiniteSet::compare-loop-position : goal.invariant-finite_set::FiniteSet::compare-loop-position
invariant-finite_set::FiniteSet::compare-loop-position l =
    items_cmp (items_of (drop l.position l.self)) (items_of (drop l.position l.other))
    ≡ items_cmp (items_of l.self) (items_of l.other)

abbrev pub invariant-finite_map::FiniteMap::compare-loop-position : goal.invariant-finite_map::FiniteMap::compare-loop-position
invariant-finite_map::FiniteMap::compare-loop-position l =
    entries_cmp (entries_of (drop l.position l.self)) (entries_of (drop l.position l.other))
    ≡ entries_cmp (entries_of l.self) (entries_of l.other)
