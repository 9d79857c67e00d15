-- Whether two sorts are spelled alike (profile): exactly if they are equal.
use Rattle.std.proofs.Common.{◌≡◌, Bool, true, false, refl}
use Rattle.std.specs.Prelude.{◌&&◌}
use Rattle.std.specs.Bool.{Decides}
use Rattle.std.proofs.lemmas.Bool.{and_parts}
use Rattle.std.proofs.lemmas.Slice.Eq.{bytes_eq-Decides}
use Rattle.ioa_terms.specs.Bindings.{same_word}
use Rattle.ioa_terms.specs.PlainSort.{PlainSort, booleans, integers, naturals, sequences, sets, maps, named_type}

-- two sorts are the same if they are spelled alike
abbrev pub same_sort : PlainSort → PlainSort → Bool
same_sort booleans booleans = true
same_sort integers integers = true
same_sort naturals naturals = true
same_sort (sequences s) (sequences t) = same_sort s t
same_sort (sets s) (sets t) = same_sort s t
same_sort (maps k v) (maps l w) = same_sort k l && same_sort v w
same_sort (named_type w) (named_type v) = same_word w v
same_sort a b = false

sort_equal : (a b : PlainSort) → same_sort a b ≡ true → a ≡ b
sort_equal booleans booleans h = refl
sort_equal integers integers h = refl
sort_equal naturals naturals h = refl
sort_equal (sequences s) (sequences t) h = λ i. sequences (sort_equal s t h i)
sort_equal (sets s) (sets t) h = λ i. sets (sort_equal s t h i)
sort_equal (maps k v) (maps l w) h =
    let p = and_parts _ _ h in
    λ i. maps (sort_equal k l p.0 i) (sort_equal v w p.1 i)
sort_equal (named_type w) (named_type v) h = λ i. named_type ((bytes_eq-Decides w v).0 h i)
sort_equal a b h = absurd (cc)

sort_itself : (a : PlainSort) → same_sort a a ≡ true
sort_itself booleans = refl
sort_itself integers = refl
sort_itself naturals = refl
sort_itself (sequences s) = sort_itself s
sort_itself (sets s) = sort_itself s
sort_itself (maps k v) = rw (sort_itself k, sort_itself v) refl
sort_itself (named_type w) = (bytes_eq-Decides w w).1 refl

-- the test finds two sorts the same if and only if they are equal
pub same_sort_is : (a b : PlainSort) → Decides (same_sort a b) (a ≡ b)
same_sort_is a b = (sort_equal a b, λ e. rw (← e) (sort_itself a))
