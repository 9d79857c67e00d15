-- The order of lists of values (profile): the first two values that differ decide, and a list that another one begins
-- with comes first.
use Rattle.std.specs.Prelude.{◌≡◌, Bool, List, Option, Some, refl}
use Rattle.std.specs.declared.cmp.Ordering.{Ordering}
use Rattle.std.specs.Ordering.{as_partial_cmp, eq_by_cmp}
use Rattle.std.specs.Cmp.{IsTotalOrder, IsEquivalence, IsPartialOrder, IsPartialEquivalence, partial_equiv_from_equiv}
use Rattle.std.specs.Cmp.Lexicographic.{slice_cmp, slice_partial_cmp}
use Rattle.std.specs.Cmp.Lexicographic.{lists_equiv, lists_po, lists_total, lists_agrees, lists_ties}
use lib.Pointwise.{pointwise}
use Rattle.ioa_values.specs.Data.{Data}
use Rattle.ioa_values.specs.DataOrder.{same, data_cmp, same_equivalence, data_cmp_partial, data_cmp_total}

-- whether two lists have the same values
abbrev pub all_same : List Data → List Data → Bool
all_same = pointwise same

-- how two lists compare
abbrev pub list_cmp : List Data → List Data → Ordering
list_cmp = slice_cmp data_cmp

abbrev pub list_partial_cmp : List Data → List Data → Option Ordering
list_partial_cmp = slice_partial_cmp (as_partial_cmp data_cmp)

pub all_same_equivalence : IsEquivalence all_same
all_same_equivalence = lists_equiv same_equivalence

pub all_same_partial : IsPartialEquivalence all_same
all_same_partial = partial_equiv_from_equiv all_same_equivalence

pub list_cmp_partial : IsPartialOrder all_same list_partial_cmp
list_cmp_partial = lists_po data_cmp_partial

pub list_cmp_total : IsTotalOrder list_cmp
list_cmp_total = lists_total data_cmp_total

pub list_cmp_agrees : (xs ys : List Data) → list_partial_cmp xs ys ≡ Some (list_cmp xs ys)
list_cmp_agrees = lists_agrees (λ x y. refl)

pub list_cmp_ties : (xs ys : List Data) → all_same xs ys ≡ eq_by_cmp list_cmp xs ys
list_cmp_ties = lists_ties data_cmp (λ x y. refl)
