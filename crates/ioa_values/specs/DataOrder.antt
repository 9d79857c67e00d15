-- The order of values (profile).
use Rattle.std.specs.Prelude.{◌≡◌, ℕ, ℤ, pos, Bool, true, false, List, [], ◌∷◌, refl}
use Rattle.std.specs.declared.cmp.Ordering.{Ordering}
use Rattle.std.specs.Ordering.{nat_cmp, int_cmp, bool_cmp, ordering_then, on, eq_by_cmp, as_partial_cmp}
use Rattle.std.specs.declared.cmp.Ordering.TheVariants.{Less, Equal, Greater}
use Rattle.std.specs.Cmp.{IsTotalOrder, IsEquivalence, IsPartialOrder, IsPartialEquivalence}
use Rattle.std.specs.Cmp.{partial_order_from_total, partial_equiv_from_equiv}
use Rattle.std.specs.Cmp.Lexicographic.{slice_cmp}
use Rattle.std.proofs.lemmas.Cmp.{int_cmp_total, on_total, lists_total, eq_by_cmp_equiv}
use Rattle.std.proofs.Common.{subst, sym, ap, ◌∙◌, arith}
use Rattle.std.proofs.lemmas.Bool.Decides.{nat_tests}
use Rattle.ioa_values.specs.Data.{Data, number, truth, constant, tuple, sequence, finite_set, finite_map}
use Rattle.ioa_values.specs.Data.{Items, no_items, item, Entries, no_entries, entry}

-- the position of a value's kind among the kinds: numbers, truth values, constants, tuples, sequences, sets and maps
abbrev pub kind : Data → ℕ
kind (number z) = 0
kind (truth b) = 1
kind (constant k) = 2
kind (tuple ds) = 3
kind (sequence ds) = 4
kind (finite_set ds) = 5
kind (finite_map es) = 6

abbrev mutual
  -- how two values compare: numbers by size, false before true, constants as they are declared, lists item by item,
  -- and values of two kinds by their kinds
  pub data_cmp : Data → Data → Ordering
  data_cmp (number m) (number n) = int_cmp m n
  data_cmp (truth a) (truth b) = bool_cmp a b
  data_cmp (constant k) (constant l) = nat_cmp k l
  data_cmp (tuple xs) (tuple ys) = items_cmp xs ys
  data_cmp (sequence xs) (sequence ys) = items_cmp xs ys
  data_cmp (finite_set xs) (finite_set ys) = items_cmp xs ys
  data_cmp (finite_map es) (finite_map fs) = entries_cmp es fs
  data_cmp a b = nat_cmp (kind a) (kind b)

  -- the first two items that differ decide; a list that another one begins with comes first
  pub items_cmp : Items → Items → Ordering
  items_cmp no_items no_items = Equal
  items_cmp no_items (item y ys) = Less
  items_cmp (item x xs) no_items = Greater
  items_cmp (item x xs) (item y ys) = ordering_then (data_cmp x y) (items_cmp xs ys)

  -- the same of entries, each by its key and then by its value
  pub entries_cmp : Entries → Entries → Ordering
  entries_cmp no_entries no_entries = Equal
  entries_cmp no_entries (entry l w fs) = Less
  entries_cmp (entry k v es) no_entries = Greater
  entries_cmp (entry k v es) (entry l w fs) =
      ordering_then (data_cmp k l) (ordering_then (data_cmp v w) (entries_cmp es fs))

-- whether two values are the same
abbrev pub same : Data → Data → Bool
same x y = eq_by_cmp data_cmp x y

-- a truth value as a number
abbrev digit : Bool → ℤ
digit false = pos 0
digit true = pos 1

-- a value as a list of numbers that is ordered as the value is, with what follows it: its kind, and then what it holds;
-- 1 comes before each item and 0 at the end
abbrev mutual
  digits : Data → List ℤ → List ℤ
  digits (number z) r = pos 0 ∷ z ∷ r
  digits (truth b) r = pos 1 ∷ digit b ∷ r
  digits (constant k) r = pos 2 ∷ pos k ∷ r
  digits (tuple ds) r = pos 3 ∷ items_digits ds r
  digits (sequence ds) r = pos 4 ∷ items_digits ds r
  digits (finite_set ds) r = pos 5 ∷ items_digits ds r
  digits (finite_map es) r = pos 6 ∷ entries_digits es r

  items_digits : Items → List ℤ → List ℤ
  items_digits no_items r = pos 0 ∷ r
  items_digits (item d more) r = pos 1 ∷ digits d (items_digits more r)

  entries_digits : Entries → List ℤ → List ℤ
  entries_digits no_entries r = pos 0 ∷ r
  entries_digits (entry k v more) r = pos 1 ∷ digits k (digits v (entries_digits more r))

pub then_equal : (o : Ordering) → ordering_then o Equal ≡ o
then_equal Less = refl
then_equal Equal = refl
then_equal Greater = refl

pub then_then : (a b c : Ordering) → ordering_then (ordering_then a b) c ≡ ordering_then a (ordering_then b c)
then_then Less b c = refl
then_then Equal b c = refl
then_then Greater b c = refl

-- constants are ordered as their indices
constants_order : (k l : ℕ) → int_cmp (pos k) (pos l) ≡ nat_cmp k l
constants_order k l = grind (arith, nat_tests)

truths_order : (a b : Bool) → int_cmp (digit a) (digit b) ≡ bool_cmp a b
truths_order false false = refl
truths_order false true = refl
truths_order true false = refl
truths_order true true = refl

mutual
  digits-order : (a b : Data) (r s : List ℤ) →
      slice_cmp int_cmp (digits a r) (digits b s) ≡ ordering_then (data_cmp a b) (slice_cmp int_cmp r s)
  digits-order (number m) (number n) r s = refl
  digits-order (truth a) (truth b) r s = ap (λ o. ordering_then o (slice_cmp int_cmp r s)) (truths_order a b)
  digits-order (constant k) (constant l) r s = ap (λ o. ordering_then o (slice_cmp int_cmp r s)) (constants_order k l)
  digits-order (tuple xs) (tuple ys) r s = items-order xs ys r s
  digits-order (sequence xs) (sequence ys) r s = items-order xs ys r s
  digits-order (finite_set xs) (finite_set ys) r s = items-order xs ys r s
  digits-order (finite_map es) (finite_map fs) r s = entries-order es fs r s
  digits-order a b r s = refl

  items-order : (xs ys : Items) (r s : List ℤ) →
      slice_cmp int_cmp (items_digits xs r) (items_digits ys s)
      ≡ ordering_then (items_cmp xs ys) (slice_cmp int_cmp r s)
  items-order no_items no_items r s = refl
  items-order no_items (item y ys) r s = refl
  items-order (item x xs) no_items r s = refl
  items-order (item x xs) (item y ys) r s =
      digits-order x y (items_digits xs r) (items_digits ys s)
      ∙ ap (ordering_then (data_cmp x y)) (items-order xs ys r s)
      ∙ sym (then_then (data_cmp x y) (items_cmp xs ys) (slice_cmp int_cmp r s))

  entries-order : (es fs : Entries) (r s : List ℤ) →
      slice_cmp int_cmp (entries_digits es r) (entries_digits fs s)
      ≡ ordering_then (entries_cmp es fs) (slice_cmp int_cmp r s)
  entries-order no_entries no_entries r s = refl
  entries-order no_entries (entry l w fs) r s = refl
  entries-order (entry k v es) no_entries r s = refl
  entries-order (entry k v es) (entry l w fs) r s =
      digits-order k l (digits v (entries_digits es r)) (digits w (entries_digits fs s))
      ∙ ap (ordering_then (data_cmp k l)) (digits-order v w (entries_digits es r) (entries_digits fs s)
      ∙ ap (ordering_then (data_cmp v w)) (entries-order es fs r s)
      ∙ sym (then_then (data_cmp v w) (entries_cmp es fs) (slice_cmp int_cmp r s)))
      ∙ sym (then_then (data_cmp k l) (ordering_then (data_cmp v w) (entries_cmp es fs)) (slice_cmp int_cmp r s))

same-order : (a b : Data) → on (λ d. digits d []) (slice_cmp int_cmp) a b ≡ data_cmp a b
same-order a b = digits-order a b [] [] ∙ then_equal (data_cmp a b)

-- the order is total
pub data_cmp_total : IsTotalOrder data_cmp
data_cmp_total =
    subst IsTotalOrder (λ i a b. same-order a b i) (on_total (λ d. digits d []) (lists_total int_cmp_total))

pub same_equivalence : IsEquivalence same
same_equivalence = eq_by_cmp_equiv data_cmp_total

pub same_partial : IsPartialEquivalence same
same_partial = partial_equiv_from_equiv same_equivalence

pub data_cmp_partial : IsPartialOrder same (as_partial_cmp data_cmp)
data_cmp_partial = partial_order_from_total data_cmp_total
