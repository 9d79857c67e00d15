-- Shapes whose tuple types are those of a text.
use Rattle.std.proofs.Common.{◌≡◌, ℕ, zero, suc, true, IfOk, List, Option, Some, None, Ok, map, slice_get, refl, sym, ap, ◌∙◌}
use Rattle.std.specs.Option.{option_and_then}
use Rattle.std.specs.List.{AllByRecursion}
use Rattle.std.proofs.lemmas.Bool.{and_parts}
use Rattle.std.proofs.lemmas.Bool.Decides.{Decides-eqb}
use Rattle.std.proofs.lemmas.Slice.Eq.{bytes_eq-Decides}
use Rattle.ioa_operators.specs.Shapes.{PlainShape, truths, integers, naturals, constants, tuples, sequences, sets, maps, PlainShapes, no_shapes, shape, field_position}
use Rattle.ioa_terms.specs.Sorted.{shape_in_terms, listed_shapes}
use Rattle.ioa_sort_rules.specs.declared.kinds.Single.{Single}
use Rattle.ioa_sort_rules.specs.declared.kinds.Single.TheVariants as single
use Rattle.ioa_sort_rules.specs.declared.kinds.Alike.{Alike}
use Rattle.ioa_sort_rules.specs.declared.kinds.Alike.TheVariants as alike
use Rattle.ioa_sort_rules.specs.declared.kinds.Pairing.{Pairing}
use Rattle.ioa_sort_rules.specs.declared.kinds.Pairing.TheVariants.{Both, Membership, Prepend, Append, Members, At, Removal, Definition}
use Rattle.ioa_sort_rules.specs.Rows.{PlainSides, sides, value_of_one, value_of_alike, other_of_left, other_of_right, entry_of, declared_field, value_of_field}
use Rattle.ioa_sort_rules.specs.SameSorts.{same_sort}
use Rattle.ioa_sort_rules.specs.DeclaredTypes.{TupleTypes, IsDeclared, AreDeclared}
use Rattle.ioa_sorts.proofs.Chains.{chain}

-- a shape is of its own sort
pub same_itself : (s : PlainShape) → same_sort s s ≡ true
same_itself truths = refl
same_itself integers = refl
same_itself naturals = refl
same_itself (constants w k m) = rw ((bytes_eq-Decides w w).1 refl, (Decides-eqb k k).1 refl, (Decides-eqb m m).1 refl) refl
same_itself (tuples w ns fs) = (bytes_eq-Decides w w).1 refl
same_itself (sequences s) = same_itself s
same_itself (sets s) = same_itself s
same_itself (maps k v) = rw (same_itself k, same_itself v) refl

-- shapes of one sort are the same
pub same_is : (d : TupleTypes) (s t : PlainShape) → IsDeclared d s → IsDeclared d t → same_sort s t ≡ true → s ≡ t
same_is d truths truths p q h = refl
same_is d integers integers p q h = refl
same_is d naturals naturals p q h = refl
same_is d (constants w k m) (constants v l n) p q h =
    let a = and_parts _ _ h in
    let b = and_parts _ _ a.1 in
    λ i. constants ((bytes_eq-Decides w v).0 a.0 i) ((Decides-eqb k l).0 b.0 i) ((Decides-eqb m n).0 b.1 i)
same_is d (tuples w ns fs) (tuples v ms gs) p q h =
    let declared : Some (tuples w ns fs) ≡ Some (tuples v ms gs) = sym p.0 ∙ (ap d ((bytes_eq-Decides w v).0 h) ∙ q.0) in
    cc
same_is d (sequences s) (sequences t) p q h = ap sequences (same_is d s t p q h)
same_is d (sets s) (sets t) p q h = ap sets (same_is d s t p q h)
same_is d (maps k v) (maps l w) p q h =
    let a = and_parts _ _ h in
    λ i. maps (same_is d k l p.0 q.0 a.0 i) (same_is d v w p.1 q.1 a.1 i)
same_is d s t p q h = absurd (cc)

-- a shape has the same tuple types in a term
pub in_terms : (d : TupleTypes) (s : PlainShape) → IsDeclared d s → IsDeclared d (shape_in_terms s)
in_terms d truths h = tt
in_terms d integers h = tt
in_terms d naturals h = tt
in_terms d (constants w k m) h = tt
in_terms d (tuples w ns fs) h = h
in_terms d (sequences s) h = in_terms d s h
in_terms d (sets s) h = in_terms d s h
in_terms d (maps k v) h = (in_terms d k h.0, in_terms d v h.1)

-- the fields of a tuple type
pub listed : (d : TupleTypes) (fs : PlainShapes) → AreDeclared d fs → AllByRecursion (IsDeclared d) (map shape_in_terms (listed_shapes fs))
listed d no_shapes h = tt
listed d (shape s fs) h = (in_terms d s h.0, listed d fs h.1)

field_at : (d : TupleTypes) (fs : PlainShapes) (k : ℕ) → AreDeclared d fs → IfOk (declared_field (slice_get (listed_shapes fs) k)) (IsDeclared d)
field_at d no_shapes k h = tt
field_at d (shape s fs) zero h = in_terms d s h.0
field_at d (shape s fs) (suc k) h = field_at d fs k h.1

pub field_declared : (d : TupleTypes) (w : List ℕ) (s : PlainShape) → IsDeclared d s → IfOk (value_of_field w s) (IsDeclared d)
field_declared d w truths h = tt
field_declared d w integers h = tt
field_declared d w naturals h = tt
field_declared d w (constants v k m) h = tt
field_declared d w (tuples v ns fs) h = by_position (field_position w ns)
  where
    by_position : (o : Option ℕ) → IfOk (declared_field (option_and_then (slice_get (listed_shapes fs)) o)) (IsDeclared d)
    by_position None = tt
    by_position (Some k) = field_at d fs k h.1
field_declared d w (sequences s) h = tt
field_declared d w (sets s) h = tt
field_declared d w (maps k v) h = tt

-- the rules make no tuple types
pub one_declared : (d : TupleTypes) (k : Single) (s : PlainShape) → IsDeclared d s → IfOk (value_of_one k s) (IsDeclared d)
one_declared d single.Truth truths h = tt
one_declared d single.Truth integers h = tt
one_declared d single.Truth naturals h = tt
one_declared d single.Truth (constants w k n) h = tt
one_declared d single.Truth (tuples w ns fs) h = tt
one_declared d single.Truth (sequences i) h = tt
one_declared d single.Truth (sets i) h = tt
one_declared d single.Truth (maps k v) h = tt
one_declared d single.Number truths h = tt
one_declared d single.Number integers h = tt
one_declared d single.Number naturals h = tt
one_declared d single.Number (constants w k n) h = tt
one_declared d single.Number (tuples w ns fs) h = tt
one_declared d single.Number (sequences i) h = tt
one_declared d single.Number (sets i) h = tt
one_declared d single.Number (maps k v) h = tt
one_declared d single.Item truths h = tt
one_declared d single.Item integers h = tt
one_declared d single.Item naturals h = tt
one_declared d single.Item (constants w k n) h = tt
one_declared d single.Item (tuples w ns fs) h = tt
one_declared d single.Item (sequences i) h = h
one_declared d single.Item (sets i) h = tt
one_declared d single.Item (maps k v) h = tt
one_declared d single.Rest truths h = tt
one_declared d single.Rest integers h = tt
one_declared d single.Rest naturals h = tt
one_declared d single.Rest (constants w k n) h = tt
one_declared d single.Rest (tuples w ns fs) h = tt
one_declared d single.Rest (sequences i) h = h
one_declared d single.Rest (sets i) h = tt
one_declared d single.Rest (maps k v) h = tt
one_declared d single.Length truths h = tt
one_declared d single.Length integers h = tt
one_declared d single.Length naturals h = tt
one_declared d single.Length (constants w k n) h = tt
one_declared d single.Length (tuples w ns fs) h = tt
one_declared d single.Length (sequences i) h = tt
one_declared d single.Length (sets i) h = tt
one_declared d single.Length (maps k v) h = tt
one_declared d single.Size truths h = tt
one_declared d single.Size integers h = tt
one_declared d single.Size naturals h = tt
one_declared d single.Size (constants w k n) h = tt
one_declared d single.Size (tuples w ns fs) h = tt
one_declared d single.Size (sequences i) h = tt
one_declared d single.Size (sets i) h = tt
one_declared d single.Size (maps k v) h = tt

alike_declared : (d : TupleTypes) (k : Alike) (s : PlainShape) → IsDeclared d s → IfOk (value_of_alike k s) (IsDeclared d)
alike_declared d alike.Truths truths h = tt
alike_declared d alike.Truths integers h = tt
alike_declared d alike.Truths naturals h = tt
alike_declared d alike.Truths (constants w k n) h = tt
alike_declared d alike.Truths (tuples w ns fs) h = tt
alike_declared d alike.Truths (sequences i) h = tt
alike_declared d alike.Truths (sets i) h = tt
alike_declared d alike.Truths (maps k v) h = tt
alike_declared d alike.Numbers truths h = tt
alike_declared d alike.Numbers integers h = tt
alike_declared d alike.Numbers naturals h = tt
alike_declared d alike.Numbers (constants w k n) h = tt
alike_declared d alike.Numbers (tuples w ns fs) h = tt
alike_declared d alike.Numbers (sequences i) h = tt
alike_declared d alike.Numbers (sets i) h = tt
alike_declared d alike.Numbers (maps k v) h = tt
alike_declared d alike.Order truths h = tt
alike_declared d alike.Order integers h = tt
alike_declared d alike.Order naturals h = tt
alike_declared d alike.Order (constants w k n) h = tt
alike_declared d alike.Order (tuples w ns fs) h = tt
alike_declared d alike.Order (sequences i) h = tt
alike_declared d alike.Order (sets i) h = tt
alike_declared d alike.Order (maps k v) h = tt
alike_declared d alike.Equality truths h = tt
alike_declared d alike.Equality integers h = tt
alike_declared d alike.Equality naturals h = tt
alike_declared d alike.Equality (constants w k n) h = tt
alike_declared d alike.Equality (tuples w ns fs) h = tt
alike_declared d alike.Equality (sequences i) h = tt
alike_declared d alike.Equality (sets i) h = tt
alike_declared d alike.Equality (maps k v) h = tt
alike_declared d alike.Concatenation truths h = tt
alike_declared d alike.Concatenation integers h = tt
alike_declared d alike.Concatenation naturals h = tt
alike_declared d alike.Concatenation (constants w k n) h = tt
alike_declared d alike.Concatenation (tuples w ns fs) h = tt
alike_declared d alike.Concatenation (sequences i) h = h
alike_declared d alike.Concatenation (sets i) h = tt
alike_declared d alike.Concatenation (maps k v) h = tt
alike_declared d alike.Union truths h = tt
alike_declared d alike.Union integers h = tt
alike_declared d alike.Union naturals h = tt
alike_declared d alike.Union (constants w k n) h = tt
alike_declared d alike.Union (tuples w ns fs) h = tt
alike_declared d alike.Union (sequences i) h = tt
alike_declared d alike.Union (sets i) h = h
alike_declared d alike.Union (maps k v) h = tt

-- the shape of the other part and that of the value
abbrev pub AreBoth : TupleTypes → PlainSides → Type 0
AreBoth d p = IsDeclared d p.other × IsDeclared d p.whole

abbrev pub AreBothIfTold : TupleTypes → Option PlainSides → Type 0
AreBothIfTold d None = Unit {0}
AreBothIfTold d (Some p) = AreBoth d p

pub left_declared : (d : TupleTypes) (k : Pairing) (s : PlainShape) → IsDeclared d s → IfOk (other_of_left k s) (AreBothIfTold d)
left_declared d (Both k) s h = chain (IsDeclared d) (AreBothIfTold d) (λ w. Ok (Some (sides s w))) (value_of_alike k s) (alike_declared d k s h) (λ w g. (h, g))
left_declared d Membership s h = tt
left_declared d Prepend s h = (h, h)
left_declared d Members s h = (h, h)
left_declared d Append truths h = tt
left_declared d Append integers h = tt
left_declared d Append naturals h = tt
left_declared d Append (constants w k n) h = tt
left_declared d Append (tuples w ns fs) h = tt
left_declared d Append (sequences i) h = (h, h)
left_declared d Append (sets i) h = tt
left_declared d Append (maps k v) h = tt
left_declared d At truths h = tt
left_declared d At integers h = tt
left_declared d At naturals h = tt
left_declared d At (constants w k n) h = tt
left_declared d At (tuples w ns fs) h = tt
left_declared d At (sequences i) h = tt
left_declared d At (sets i) h = tt
left_declared d At (maps k v) h = h
left_declared d Removal truths h = tt
left_declared d Removal integers h = tt
left_declared d Removal naturals h = tt
left_declared d Removal (constants w k n) h = tt
left_declared d Removal (tuples w ns fs) h = tt
left_declared d Removal (sequences i) h = tt
left_declared d Removal (sets i) h = tt
left_declared d Removal (maps k v) h = (h.0, h)
left_declared d Definition truths h = tt
left_declared d Definition integers h = tt
left_declared d Definition naturals h = tt
left_declared d Definition (constants w k n) h = tt
left_declared d Definition (tuples w ns fs) h = tt
left_declared d Definition (sequences i) h = tt
left_declared d Definition (sets i) h = tt
left_declared d Definition (maps k v) h = (h.0, tt)

pub right_declared : (d : TupleTypes) (k : Pairing) (s : PlainShape) → IsDeclared d s → IfOk (other_of_right k s) (AreBoth d)
right_declared d (Both k) s h = chain (IsDeclared d) (AreBoth d) (λ w. Ok (sides s w)) (value_of_alike k s) (alike_declared d k s h) (λ w g. (h, g))
right_declared d Append s h = (h, h)
right_declared d At s h = tt
right_declared d Removal s h = tt
right_declared d Definition s h = tt
right_declared d Membership truths h = tt
right_declared d Membership integers h = tt
right_declared d Membership naturals h = tt
right_declared d Membership (constants w k n) h = tt
right_declared d Membership (tuples w ns fs) h = tt
right_declared d Membership (sequences i) h = (h, tt)
right_declared d Membership (sets i) h = (h, tt)
right_declared d Membership (maps k v) h = tt
right_declared d Prepend truths h = tt
right_declared d Prepend integers h = tt
right_declared d Prepend naturals h = tt
right_declared d Prepend (constants w k n) h = tt
right_declared d Prepend (tuples w ns fs) h = tt
right_declared d Prepend (sequences i) h = (h, h)
right_declared d Prepend (sets i) h = tt
right_declared d Prepend (maps k v) h = tt
right_declared d Members truths h = tt
right_declared d Members integers h = tt
right_declared d Members naturals h = tt
right_declared d Members (constants w k n) h = tt
right_declared d Members (tuples w ns fs) h = tt
right_declared d Members (sequences i) h = tt
right_declared d Members (sets i) h = (h, h)
right_declared d Members (maps k v) h = tt

pub entry_declared : (d : TupleTypes) (s : PlainShape) → IsDeclared d s → IfOk (entry_of s) (λ p. AreBoth d p × (s ≡ maps p.other p.whole))
entry_declared d truths h = tt
entry_declared d integers h = tt
entry_declared d naturals h = tt
entry_declared d (constants w k n) h = tt
entry_declared d (tuples w ns fs) h = tt
entry_declared d (sequences i) h = tt
entry_declared d (sets i) h = tt
entry_declared d (maps k v) h = (h, refl)
