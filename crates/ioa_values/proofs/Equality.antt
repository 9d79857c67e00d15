-- Values that the order does not tell apart are equal.
use Rattle.std.proofs.Common.{◌≡◌, ℕ, ℤ, Bool, true, false, refl, ap, sym}
use Rattle.std.specs.Prelude.{◌↔◌, IsTrue}
use Rattle.std.specs.declared.cmp.Ordering.{Ordering}
use Rattle.std.specs.Ordering.{int_cmp, nat_cmp, bool_cmp, is_eq, ordering_then}
use Rattle.std.specs.declared.cmp.Ordering.TheVariants.{Less, Equal, Greater}
use Rattle.std.proofs.lemmas.Cmp.{int_ranked, ranked, tied_itself}
use Rattle.ioa_values.specs.Data.{Data, number, truth, constant, tuple, sequence, finite_set, finite_map, Items, no_items, item, Entries, no_entries, entry}
use Rattle.ioa_values.specs.DataOrder.{data_cmp, items_cmp, entries_cmp, data_cmp_total, same}

numbers_tied : (x y : ℤ) → int_cmp x y ≡ Equal → x ≡ y
numbers_tied x y e = int_ranked x y Equal (sym e)

indices_tied : (k l : ℕ) → nat_cmp k l ≡ Equal → k ≡ l
indices_tied k l e = ranked k l Equal (sym e)

truths_tied : (a b : Bool) → bool_cmp a b ≡ Equal → a ≡ b
truths_tied false false e = refl
truths_tied false true e = absurd (cc)
truths_tied true false e = absurd (cc)
truths_tied true true e = refl

-- if two orders, one after the other, tie two values, each of them does
first_tied : (o p : Ordering) → ordering_then o p ≡ Equal → o ≡ Equal
first_tied Less p e = e
first_tied Equal p e = refl
first_tied Greater p e = e

second_tied : (o p : Ordering) → ordering_then o p ≡ Equal → p ≡ Equal
second_tied Less p e = absurd (cc)
second_tied Equal p e = e
second_tied Greater p e = absurd (cc)

-- values that the order ties are one value
mutual
  pub tied_equal : (a b : Data) → data_cmp a b ≡ Equal → a ≡ b
  tied_equal (number m) (number n) e = ap number (numbers_tied m n e)
  tied_equal (truth a) (truth b) e = ap truth (truths_tied a b e)
  tied_equal (constant k) (constant l) e = ap constant (indices_tied k l e)
  tied_equal (tuple xs) (tuple ys) e = ap tuple (items_tied xs ys e)
  tied_equal (sequence xs) (sequence ys) e = ap sequence (items_tied xs ys e)
  tied_equal (finite_set xs) (finite_set ys) e = ap finite_set (items_tied xs ys e)
  tied_equal (finite_map es) (finite_map fs) e = ap finite_map (entries_tied es fs e)
  tied_equal a b e = absurd (cc)

  items_tied : (xs ys : Items) → items_cmp xs ys ≡ Equal → xs ≡ ys
  items_tied no_items no_items e = refl
  items_tied no_items (item y ys) e = absurd (cc)
  items_tied (item x xs) no_items e = absurd (cc)
  items_tied (item x xs) (item y ys) e =
      let p = tied_equal x y (first_tied (data_cmp x y) (items_cmp xs ys) e) in
      let q = items_tied xs ys (second_tied (data_cmp x y) (items_cmp xs ys) e) in
      λ i. item (p i) (q i)

  entries_tied : (es fs : Entries) → entries_cmp es fs ≡ Equal → es ≡ fs
  entries_tied no_entries no_entries e = refl
  entries_tied no_entries (entry l w fs) e = absurd (cc)
  entries_tied (entry k v es) no_entries e = absurd (cc)
  entries_tied (entry k v es) (entry l w fs) e =
      let later = ordering_then (data_cmp v w) (entries_cmp es fs) in
      let rest = second_tied (data_cmp k l) later e in
      let p = tied_equal k l (first_tied (data_cmp k l) later e) in
      let q = tied_equal v w (first_tied (data_cmp v w) (entries_cmp es fs) rest) in
      let r = entries_tied es fs (second_tied (data_cmp v w) (entries_cmp es fs) rest) in
      λ i. entry (p i) (q i) (r i)

answer_equal : (o : Ordering) → is_eq o ≡ true → o ≡ Equal
answer_equal Less e = absurd (cc)
answer_equal Equal e = refl
answer_equal Greater e = absurd (cc)

-- values that the test finds the same are equal
pub same_equal : (a b : Data) → same a b ≡ true → a ≡ b
same_equal a b e = tied_equal a b (answer_equal (data_cmp a b) e)

-- the test finds a value the same as itself
pub same_itself : (a : Data) → same a a ≡ true
same_itself a = ap is_eq (tied_itself data_cmp_total a)

-- the test finds two values the same if and only if they are equal
pub same_is : (a b : Data) → IsTrue (same a b) ↔ (a ≡ b)
same_is a b = (same_equal a b, λ e. rw (← e) (same_itself a))
