-- What is asked of a choice: a simple shape, which the target holds, and a new name.
use Rattle.std.proofs.Common.{◌≡◌, ℕ, Bool, true, false, nat_lt, if◌then◌else◌, IfOk, List, Option, Some, None, Result, Ok, Err, refl, ap, subst}
use Rattle.std.specs.Option.{is_some}
use Rattle.ioa_values.specs.Outcome.{and_then}
use Rattle.ioa_operators.specs.Shapes.{PlainShape, truths, integers, naturals, constants, tuples, sequences, sets, maps}
use Rattle.ioa_operators.specs.ShapeHeight.{height}
use Rattle.ioa_terms.specs.declared.name.Name.TheVariants.{Word}
use Rattle.ioa_terms.specs.PlainSort as sort
use Rattle.ioa_terms.specs.PlainSort.{PlainSort}
use Rattle.ioa_terms.specs.Sorted.{NameShapes, shape_named}
use Rattle.ioa_refusals.specs.declared.refusal.Refusal.{Refusal}
use Rattle.ioa_refusals.specs.declared.refusal.Refusal.TheVariants.{Twice, Sorts, Limit, EmptyOfWhat}
use Rattle.ioa_sort_rules.specs.SameSorts.{same_sort}
use Rattle.ioa_sort_rules.specs.DeclaredTypes.{TupleTypes, IsDeclared}
use Rattle.ioa_types.specs.TypeTables.{TypeTable, limited, known_type, shape_of_sort}
use Rattle.ioa_types.specs.Meanings.{Means}
use Rattle.ioa_types.specs.declared.height.TheConstants.{SHAPE_LIMIT}
use Rattle.ioa_sorts.specs.SimpleShapes.{is_simple, IsSimple}
use Rattle.ioa_sorts.specs.Statements.{if_in_effect, simple_or, simple_shape, same_or, new_name}
use Rattle.ioa_sorts.proofs.Chains.{chain}
use Rattle.ioa_sorts.proofs.Types.{same_itself, same_is}
use Rattle.ioa_sorts.proofs.Told.{Calmly, Anything, calm_chain, sorts_is_calm, unknown_is_calm}

abbrev pub shape_is : PlainShape → Result PlainShape Refusal
shape_is s = Ok s

abbrev pub word_is : List ℕ → Result (List ℕ) Refusal
word_is w = Ok w

-- a simple shape has no tuple types
pub simple_declared : (d : TupleTypes) (s : PlainShape) → IsSimple s → IsDeclared d s
simple_declared d truths h = tt
simple_declared d integers h = tt
simple_declared d naturals h = tt
simple_declared d (constants w k n) h = tt
simple_declared d (tuples w ns fs) h = absurd h
simple_declared d (sequences s) h = absurd h
simple_declared d (sets s) h = absurd h
simple_declared d (maps k v) h = absurd h

-- the test of a simple shape
simple_good : (s : PlainShape) → IfOk (simple_or s) (λ d. (s ≡ d) × IsSimple d)
unfolding simple_or
simple_good truths = (refl, tt)
simple_good integers = (refl, tt)
simple_good naturals = (refl, tt)
simple_good (constants w k n) = (refl, tt)
simple_good (tuples w ns fs) = tt
simple_good (sequences s) = tt
simple_good (sets s) = tt
simple_good (maps k v) = tt

simple_passed : (s : PlainShape) → IsSimple s → shape_is s ≡ simple_or s
unfolding simple_or
simple_passed truths h = refl
simple_passed integers h = refl
simple_passed naturals h = refl
simple_passed (constants w k n) h = refl
simple_passed (tuples w ns fs) h = absurd h
simple_passed (sequences s) h = absurd h
simple_passed (sets s) h = absurd h
simple_passed (maps k v) h = absurd h

-- a shape that is not simple is refused, whatever is to hold
abbrev IsHigh : PlainShape → Type 0
IsHigh s = is_simple s ≡ false

high_refused : (P : PlainShape → Type 0) (s : PlainShape) → IsHigh s → IfOk (simple_or s) P
unfolding simple_or
high_refused P s h = rw h tt

high_limited : (s : PlainShape) → IsHigh s → IfOk (limited s) IsHigh
unfolding limited
high_limited s h = by_test (nat_lt (height s) SHAPE_LIMIT)
  where
    by_test : (b : Bool) → IfOk (if b then shape_is s else Err Limit) IsHigh
    by_test true = h
    by_test false = tt

abbrev AnyShape : PlainShape → Type 0
AnyShape s = Unit {0}

any_result : (r : Result PlainShape Refusal) → IfOk r AnyShape
any_result (Ok s) = tt
any_result (Err f) = tt

module _ (types : TypeTable) where
  -- what is found of the sort of a choice
  abbrev pub IsSimpleOf : PlainSort → PlainShape → Type 0
  IsSimpleOf s d = Means types s d × IsSimple d

  named_good : (w : List ℕ) (o : Option PlainShape) → shape_named (Word w) types ≡ o → IfOk (and_then (known_type o) simple_or) (IsSimpleOf (sort.named_type w))
  named_good w None e = tt
  named_good w (Some s) e = by_found (simple_or s) (simple_good s)
    where
      by_found : (r : Result PlainShape Refusal) → IfOk r (λ d. (s ≡ d) × IsSimple d) → IfOk r (IsSimpleOf (sort.named_type w))
      by_found (Ok d) h = (subst (λ x. shape_named (Word w) types ≡ Some x) h.0 e, h.1)
      by_found (Err f) h = tt

  pub sort_good : (s : PlainSort) → IfOk (simple_shape types s) (IsSimpleOf s)
  unfolding simple_or
  sort_good sort.booleans = (refl, tt)
  sort_good sort.integers = (refl, tt)
  sort_good sort.naturals = (refl, tt)
  sort_good (sort.sequences s) =
      chain IsHigh (IsSimpleOf (sort.sequences s)) simple_or (and_then (shape_of_sort types s) (λ x. limited (sequences x)))
      (chain AnyShape IsHigh (λ x. limited (sequences x)) (shape_of_sort types s) (any_result (shape_of_sort types s)) (λ x _. high_limited (sequences x) refl))
      (high_refused (IsSimpleOf (sort.sequences s)))
  sort_good (sort.sets s) =
      chain IsHigh (IsSimpleOf (sort.sets s)) simple_or (and_then (shape_of_sort types s) (λ x. limited (sets x)))
      (chain AnyShape IsHigh (λ x. limited (sets x)) (shape_of_sort types s) (any_result (shape_of_sort types s)) (λ x _. high_limited (sets x) refl))
      (high_refused (IsSimpleOf (sort.sets s)))
  sort_good (sort.maps k v) =
      chain IsHigh (IsSimpleOf (sort.maps k v)) simple_or (and_then (shape_of_sort types k) (λ x. and_then (shape_of_sort types v) (λ y. limited (maps x y))))
      (chain AnyShape IsHigh (λ x. and_then (shape_of_sort types v) (λ y. limited (maps x y))) (shape_of_sort types k) (any_result (shape_of_sort types k))
      (λ x _. chain AnyShape IsHigh (λ y. limited (maps x y)) (shape_of_sort types v) (any_result (shape_of_sort types v)) (λ y _. high_limited (maps x y) refl)))
      (high_refused (IsSimpleOf (sort.maps k v)))
  sort_good (sort.named_type w) = named_good w (shape_named (Word w) types) refl

  pub sort_passed : (s : PlainSort) (d : PlainShape) → Means types s d → IsSimple d → shape_is d ≡ simple_shape types s
  unfolding simple_or
  sort_passed sort.booleans d m h = ap shape_is m
  sort_passed sort.integers d m h = ap shape_is m
  sort_passed sort.naturals d m h = ap shape_is m
  sort_passed (sort.sequences s) d m h = absurd (subst IsSimple m.2 h)
  sort_passed (sort.sets s) d m h = absurd (subst IsSimple m.2 h)
  sort_passed (sort.maps k v) d m h = absurd (subst IsSimple m.4 h)
  sort_passed (sort.named_type w) d m h = rw m (simple_passed d h)

-- the shape of a target is that of the values
pub same_good : (d : TupleTypes) (s t : PlainShape) → IsDeclared d s → IsDeclared d t → IfOk (same_or s t) (λ _. s ≡ t)
unfolding same_or
same_good d s t p q = by_test (same_sort s t) (same_is d s t p q)
  where
    by_test : (b : Bool) → (b ≡ true → s ≡ t) → IfOk (if b then shape_is s else Err Sorts) (λ _. s ≡ t)
    by_test true h = h refl
    by_test false h = tt

pub same_passed : (s : PlainShape) → shape_is s ≡ same_or s s
unfolding same_or
same_passed s = rw (same_itself s) refl

-- the name is new
pub new_good : (x : List ℕ) (names : NameShapes) → IfOk (new_name x names) (λ _. shape_named (Word x) names ≡ None)
unfolding new_name
new_good x names = by_found (shape_named (Word x) names)
  where
    by_found : (o : Option PlainShape) → IfOk (if is_some o then Err Twice else word_is x) (λ _. o ≡ None)
    by_found None = refl
    by_found (Some s) = tt

pub new_passed : (x : List ℕ) (names : NameShapes) → shape_named (Word x) names ≡ None → word_is x ≡ new_name x names
unfolding new_name
new_passed x names h = rw h refl

-- only an effect has a choice
pub outside_passed : {A : Type 0} (b : Bool) → b ≡ false → (r : Result A Refusal) → r ≡ if_in_effect b r
unfolding if_in_effect
outside_passed true e r = absurd (cc)
outside_passed false e r = refl

-- none of these tests wants a sort for a display
limit_is_calm : Limit ≡ EmptyOfWhat → ⊥
limit_is_calm e = absurd (cc)

twice_is_calm : Twice ≡ EmptyOfWhat → ⊥
twice_is_calm e = absurd (cc)

limited_calm : (s : PlainShape) → Calmly Anything (limited s)
unfolding limited
limited_calm s = by_test (nat_lt (height s) SHAPE_LIMIT)
  where
    by_test : (b : Bool) → Calmly Anything (if b then shape_is s else Err Limit)
    by_test true = tt
    by_test false = limit_is_calm

simple_or_calm : (s : PlainShape) → Calmly Anything (simple_or s)
unfolding simple_or
simple_or_calm s = by_test (is_simple s)
  where
    by_test : (b : Bool) → Calmly Anything (if b then shape_is s else Err Sorts)
    by_test true = tt
    by_test false = sorts_is_calm

known_calm : (o : Option PlainShape) → Calmly Anything (known_type o)
known_calm None = unknown_is_calm
known_calm (Some s) = tt

shape_calm : (types : TypeTable) (s : PlainSort) → Calmly Anything (shape_of_sort types s)
shape_calm types sort.booleans = tt
shape_calm types sort.integers = tt
shape_calm types sort.naturals = tt
shape_calm types (sort.sequences s) = calm_chain Anything Anything (λ x. limited (sequences x)) (shape_of_sort types s) (shape_calm types s) (λ x _. limited_calm (sequences x))
shape_calm types (sort.sets s) = calm_chain Anything Anything (λ x. limited (sets x)) (shape_of_sort types s) (shape_calm types s) (λ x _. limited_calm (sets x))
shape_calm types (sort.maps k v) = calm_chain Anything Anything (λ x. and_then (shape_of_sort types v) (λ y. limited (maps x y))) (shape_of_sort types k) (shape_calm types k)
    (λ x _. calm_chain Anything Anything (λ y. limited (maps x y)) (shape_of_sort types v) (shape_calm types v) (λ y _. limited_calm (maps x y)))
shape_calm types (sort.named_type w) = known_calm (shape_named (Word w) types)

pub sort_calm : (types : TypeTable) (s : PlainSort) → Calmly Anything (simple_shape types s)
sort_calm types s = calm_chain Anything Anything simple_or (shape_of_sort types s) (shape_calm types s) (λ x _. simple_or_calm x)

pub same_calm : (s t : PlainShape) → Calmly Anything (same_or s t)
unfolding same_or
same_calm s t = by_test (same_sort s t)
  where
    by_test : (b : Bool) → Calmly Anything (if b then shape_is s else Err Sorts)
    by_test true = tt
    by_test false = sorts_is_calm

pub new_calm : (x : List ℕ) (names : NameShapes) → Calmly Anything (new_name x names)
unfolding new_name
new_calm x names = by_test (is_some (shape_named (Word x) names))
  where
    by_test : (b : Bool) → Calmly Anything (if b then Err Twice else word_is x)
    by_test true = twice_is_calm
    by_test false = tt

pub effect_calm : {A : Type 0} (b : Bool) (r : Result A Refusal) → Calmly Anything r → Calmly Anything (if_in_effect b r)
unfolding if_in_effect
effect_calm true r h = unknown_is_calm
effect_calm false r h = h
