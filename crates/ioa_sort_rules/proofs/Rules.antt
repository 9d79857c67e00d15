-- The rows of sorts against the shapes that operators and functions take and give.
use Rattle.std.proofs.Common.{◌≡◌, ◌⊎◌, inl, inr, [], ◌∷◌, Option, Some, None, Result, Ok, Err, refl, sym, ap, ◌∙◌}
use Rattle.ioa_values.specs.Outcome.{and_then}
use Rattle.ioa_operators.specs.Shapes.{PlainShape, truths, integers, naturals, constants, tuples, sequences, sets, maps}
use Rattle.ioa_operators.specs.declared.operator.UnaryOperator.{UnaryOperator}
use Rattle.ioa_operators.specs.declared.operator.UnaryOperator.TheVariants.{Not, Negative}
use Rattle.ioa_operators.specs.declared.operator.BinaryOperator.{BinaryOperator}
use Rattle.ioa_operators.specs.declared.operator.BinaryOperator.TheVariants as binary
use Rattle.ioa_operators.specs.declared.operator.Function.{Function}
use Rattle.ioa_operators.specs.declared.operator.Function.TheVariants as function
use Rattle.ioa_terms.specs.Sorted.{UnaryIs, negation, negative, BinaryIs, equivalent, implies, either, both, equal, differ, below, at_most, above, at_least, item_of, member_of, prepended, appended, joined, sum, difference, product, at_key, FunctionIs, head, tail, items, members, keys, quotient, remainder, inserted, deleted, united, updated, removed, defined}
use Rattle.ioa_refusals.specs.declared.refusal.Refusal.{Refusal}
use Rattle.ioa_refusals.specs.declared.refusal.Refusal.TheVariants.{EmptyOfWhat}
use Rattle.ioa_sort_rules.specs.declared.kinds.Single.{Single}
use Rattle.ioa_sort_rules.specs.declared.kinds.Single.TheVariants as single
use Rattle.ioa_sort_rules.specs.declared.kinds.Alike.{Alike}
use Rattle.ioa_sort_rules.specs.declared.kinds.Alike.TheVariants as alike
use Rattle.ioa_sort_rules.specs.declared.kinds.Pairing.{Pairing}
use Rattle.ioa_sort_rules.specs.declared.kinds.Pairing.TheVariants.{Both, Members, Removal, Definition}
use Rattle.ioa_sort_rules.specs.declared.kinds.Arity.TheVariants.{One, Two, Update}
use Rattle.ioa_sort_rules.specs.Kinds.{single_of, pairing_of, arity_of}
use Rattle.ioa_sort_rules.specs.Rows.{PlainSides, sides, value_of_one, value_of_alike, other_of_left, other_of_right}

-- sides that are equal have equal parts
equal_sides : (a b c d : PlainShape) → sides a b ≡ sides c d → (a ≡ c) × (b ≡ d)
equal_sides a b c d h = (ap (λ (p : PlainSides). p.other) h, ap (λ (p : PlainSides). p.whole) h)

abbrev of_left : PlainSides → Result (Option PlainSides) Refusal
of_left p = Ok (Some p)

abbrev of_right : PlainSides → Result PlainSides Refusal
of_right p = Ok p

left_sides : (a b c d : PlainShape) → of_left (sides a b) ≡ of_left (sides c d) → (a ≡ c) × (b ≡ d)
left_sides a b c d h = let same : sides a b ≡ sides c d = cc in equal_sides a b c d same

right_sides : (a b c d : PlainShape) → of_right (sides a b) ≡ of_right (sides c d) → (a ≡ c) × (b ≡ d)
right_sides a b c d h = let same : sides a b ≡ sides c d = cc in equal_sides a b c d same

-- what holds of shapes holds of equal ones
of_equal : (R : PlainShape → PlainShape → PlainShape → Type 0) (x y s u v w : PlainShape) → x ≡ u → y ≡ v → s ≡ w → R u v w → R x y s
of_equal R x y s u v w e f g h = rw (e, f, g) h

-- two parts of one sort have one shape, from which the row gives the value's
both_left : (k : Alike) (x y s : PlainShape) → other_of_left (Both k) x ≡ Ok (Some (sides y s)) → (x ≡ y) × (value_of_alike k x ≡ Ok s)
both_left k x y s h = by_value (value_of_alike k x) h
  where
    by_value : (r : Result PlainShape Refusal) → and_then r (λ w. Ok (Some (sides x w))) ≡ Ok (Some (sides y s)) → (x ≡ y) × (r ≡ Ok s)
    by_value (Ok w) h = let e = left_sides x w y s h in (e.0, ap Ok e.1)
    by_value (Err f) h = absurd (cc)

both_right : (k : Alike) (x y s : PlainShape) → other_of_right (Both k) y ≡ Ok (sides x s) → (y ≡ x) × (value_of_alike k y ≡ Ok s)
both_right k x y s h = by_value (value_of_alike k y) h
  where
    by_value : (r : Result PlainShape Refusal) → and_then r (λ w. Ok (sides y w)) ≡ Ok (sides x s) → (y ≡ x) × (r ≡ Ok s)
    by_value (Ok w) h = let e = right_sides y w x s h in (e.0, ap Ok e.1)
    by_value (Err f) h = absurd (cc)

-- the rows of parts of one sort
of_truths : (x s : PlainShape) → value_of_alike alike.Truths x ≡ Ok s → (x ≡ truths) × (s ≡ truths)
of_truths truths s h = let whole : truths ≡ s = cc in (refl, sym whole)
of_truths integers s h = absurd (cc)
of_truths naturals s h = absurd (cc)
of_truths (constants w k n) s h = absurd (cc)
of_truths (tuples w ns fs) s h = absurd (cc)
of_truths (sequences i) s h = absurd (cc)
of_truths (sets i) s h = absurd (cc)
of_truths (maps k v) s h = absurd (cc)

of_numbers : (x s : PlainShape) → value_of_alike alike.Numbers x ≡ Ok s → (x ≡ integers) × (s ≡ integers)
of_numbers truths s h = absurd (cc)
of_numbers integers s h = let whole : integers ≡ s = cc in (refl, sym whole)
of_numbers naturals s h = absurd (cc)
of_numbers (constants w k n) s h = absurd (cc)
of_numbers (tuples w ns fs) s h = absurd (cc)
of_numbers (sequences i) s h = absurd (cc)
of_numbers (sets i) s h = absurd (cc)
of_numbers (maps k v) s h = absurd (cc)

of_order : (x s : PlainShape) → value_of_alike alike.Order x ≡ Ok s → (x ≡ integers) × (s ≡ truths)
of_order truths s h = absurd (cc)
of_order integers s h = let whole : truths ≡ s = cc in (refl, sym whole)
of_order naturals s h = absurd (cc)
of_order (constants w k n) s h = absurd (cc)
of_order (tuples w ns fs) s h = absurd (cc)
of_order (sequences i) s h = absurd (cc)
of_order (sets i) s h = absurd (cc)
of_order (maps k v) s h = absurd (cc)

of_equality : (x s : PlainShape) → value_of_alike alike.Equality x ≡ Ok s → s ≡ truths
of_equality truths s h = let whole : truths ≡ s = cc in sym whole
of_equality integers s h = let whole : truths ≡ s = cc in sym whole
of_equality naturals s h = let whole : truths ≡ s = cc in sym whole
of_equality (constants w k n) s h = let whole : truths ≡ s = cc in sym whole
of_equality (tuples w ns fs) s h = let whole : truths ≡ s = cc in sym whole
of_equality (sequences i) s h = let whole : truths ≡ s = cc in sym whole
of_equality (sets i) s h = let whole : truths ≡ s = cc in sym whole
of_equality (maps k v) s h = let whole : truths ≡ s = cc in sym whole

of_sequences : (x s : PlainShape) → value_of_alike alike.Concatenation x ≡ Ok s → (i : PlainShape) × (x ≡ sequences i) × (s ≡ sequences i)
of_sequences truths s h = absurd (cc)
of_sequences integers s h = absurd (cc)
of_sequences naturals s h = absurd (cc)
of_sequences (constants w k n) s h = absurd (cc)
of_sequences (tuples w ns fs) s h = absurd (cc)
of_sequences (sequences i) s h = let whole : sequences i ≡ s = cc in (i, refl, sym whole)
of_sequences (sets i) s h = absurd (cc)
of_sequences (maps k v) s h = absurd (cc)

of_sets : (x s : PlainShape) → value_of_alike alike.Union x ≡ Ok s → (i : PlainShape) × (x ≡ sets i) × (s ≡ sets i)
of_sets truths s h = absurd (cc)
of_sets integers s h = absurd (cc)
of_sets naturals s h = absurd (cc)
of_sets (constants w k n) s h = absurd (cc)
of_sets (tuples w ns fs) s h = absurd (cc)
of_sets (sequences i) s h = absurd (cc)
of_sets (sets i) s h = let whole : sets i ≡ s = cc in (i, refl, sym whole)
of_sets (maps k v) s h = absurd (cc)

-- an operator before a term
pub unary_is : (op : UnaryOperator) (x s : PlainShape) → value_of_one (single_of op) x ≡ Ok s → UnaryIs op x s
unary_is Not truths s h = let whole : truths ≡ s = cc in rw (← whole) negation
unary_is Not integers s h = absurd (cc)
unary_is Not naturals s h = absurd (cc)
unary_is Not (constants w k n) s h = absurd (cc)
unary_is Not (tuples w ns fs) s h = absurd (cc)
unary_is Not (sequences i) s h = absurd (cc)
unary_is Not (sets i) s h = absurd (cc)
unary_is Not (maps k v) s h = absurd (cc)
unary_is Negative truths s h = absurd (cc)
unary_is Negative integers s h = let whole : integers ≡ s = cc in rw (← whole) negative
unary_is Negative naturals s h = absurd (cc)
unary_is Negative (constants w k n) s h = absurd (cc)
unary_is Negative (tuples w ns fs) s h = absurd (cc)
unary_is Negative (sequences i) s h = absurd (cc)
unary_is Negative (sets i) s h = absurd (cc)
unary_is Negative (maps k v) s h = absurd (cc)

pub unary_from : {op : UnaryOperator} {x s : PlainShape} → UnaryIs op x s → value_of_one (single_of op) x ≡ Ok s
unary_from negation = refl
unary_from negative = refl

-- what the left part tells of an operator between two terms
pub left_is : (op : BinaryOperator) (x y s : PlainShape) → other_of_left (pairing_of op) x ≡ Ok (Some (sides y s)) → BinaryIs op x y s
left_is binary.Equivalent x y s h = let p = both_left alike.Truths x y s h in let t = of_truths x s p.1 in of_equal (BinaryIs binary.Equivalent) x y s truths truths truths (t.0) (sym p.0 ∙ t.0) t.1 equivalent
left_is binary.Implies x y s h = let p = both_left alike.Truths x y s h in let t = of_truths x s p.1 in of_equal (BinaryIs binary.Implies) x y s truths truths truths (t.0) (sym p.0 ∙ t.0) t.1 implies
left_is binary.Or x y s h = let p = both_left alike.Truths x y s h in let t = of_truths x s p.1 in of_equal (BinaryIs binary.Or) x y s truths truths truths (t.0) (sym p.0 ∙ t.0) t.1 either
left_is binary.And x y s h = let p = both_left alike.Truths x y s h in let t = of_truths x s p.1 in of_equal (BinaryIs binary.And) x y s truths truths truths (t.0) (sym p.0 ∙ t.0) t.1 both
left_is binary.Equal x y s h = let p = both_left alike.Equality x y s h in of_equal (BinaryIs binary.Equal) x y s x x truths refl (sym p.0) (of_equality x s p.1) equal
left_is binary.NotEqual x y s h = let p = both_left alike.Equality x y s h in of_equal (BinaryIs binary.NotEqual) x y s x x truths refl (sym p.0) (of_equality x s p.1) differ
left_is binary.Less x y s h = let p = both_left alike.Order x y s h in let t = of_order x s p.1 in of_equal (BinaryIs binary.Less) x y s integers integers truths (t.0) (sym p.0 ∙ t.0) t.1 below
left_is binary.AtMost x y s h = let p = both_left alike.Order x y s h in let t = of_order x s p.1 in of_equal (BinaryIs binary.AtMost) x y s integers integers truths (t.0) (sym p.0 ∙ t.0) t.1 at_most
left_is binary.Greater x y s h = let p = both_left alike.Order x y s h in let t = of_order x s p.1 in of_equal (BinaryIs binary.Greater) x y s integers integers truths (t.0) (sym p.0 ∙ t.0) t.1 above
left_is binary.AtLeast x y s h = let p = both_left alike.Order x y s h in let t = of_order x s p.1 in of_equal (BinaryIs binary.AtLeast) x y s integers integers truths (t.0) (sym p.0 ∙ t.0) t.1 at_least
left_is binary.Member x y s h = absurd (cc)
left_is binary.Prepend x y s h = let e = left_sides (sequences x) (sequences x) y s h in of_equal (BinaryIs binary.Prepend) x y s x (sequences x) (sequences x) refl (sym e.0) (sym e.1) prepended
left_is binary.Append truths y s h = absurd (cc)
left_is binary.Append integers y s h = absurd (cc)
left_is binary.Append naturals y s h = absurd (cc)
left_is binary.Append (constants w k n) y s h = absurd (cc)
left_is binary.Append (tuples w ns fs) y s h = absurd (cc)
left_is binary.Append (sequences i) y s h = let e = left_sides i (sequences i) y s h in of_equal (BinaryIs binary.Append) (sequences i) y s (sequences i) i (sequences i) refl (sym e.0) (sym e.1) appended
left_is binary.Append (sets i) y s h = absurd (cc)
left_is binary.Append (maps k v) y s h = absurd (cc)
left_is binary.Concatenate x y s h = let p = both_left alike.Concatenation x y s h in let t = of_sequences x s p.1 in of_equal (BinaryIs binary.Concatenate) x y s (sequences t.0) (sequences t.0) (sequences t.0) (t.1) (sym p.0 ∙ t.1) t.2 joined
left_is binary.Plus x y s h = let p = both_left alike.Numbers x y s h in let t = of_numbers x s p.1 in of_equal (BinaryIs binary.Plus) x y s integers integers integers (t.0) (sym p.0 ∙ t.0) t.1 sum
left_is binary.Minus x y s h = let p = both_left alike.Numbers x y s h in let t = of_numbers x s p.1 in of_equal (BinaryIs binary.Minus) x y s integers integers integers (t.0) (sym p.0 ∙ t.0) t.1 difference
left_is binary.Times x y s h = let p = both_left alike.Numbers x y s h in let t = of_numbers x s p.1 in of_equal (BinaryIs binary.Times) x y s integers integers integers (t.0) (sym p.0 ∙ t.0) t.1 product
left_is binary.At truths y s h = absurd (cc)
left_is binary.At integers y s h = absurd (cc)
left_is binary.At naturals y s h = absurd (cc)
left_is binary.At (constants w k n) y s h = absurd (cc)
left_is binary.At (tuples w ns fs) y s h = absurd (cc)
left_is binary.At (sequences i) y s h = absurd (cc)
left_is binary.At (sets i) y s h = absurd (cc)
left_is binary.At (maps k v) y s h = let e = left_sides k v y s h in of_equal (BinaryIs binary.At) (maps k v) y s (maps k v) k v refl (sym e.0) (sym e.1) at_key

-- and what the right part tells
pub right_is : (op : BinaryOperator) (x y s : PlainShape) → other_of_right (pairing_of op) y ≡ Ok (sides x s) → BinaryIs op x y s
right_is binary.Equivalent x y s h = let p = both_right alike.Truths x y s h in let t = of_truths y s p.1 in of_equal (BinaryIs binary.Equivalent) x y s truths truths truths (sym p.0 ∙ t.0) (t.0) t.1 equivalent
right_is binary.Implies x y s h = let p = both_right alike.Truths x y s h in let t = of_truths y s p.1 in of_equal (BinaryIs binary.Implies) x y s truths truths truths (sym p.0 ∙ t.0) (t.0) t.1 implies
right_is binary.Or x y s h = let p = both_right alike.Truths x y s h in let t = of_truths y s p.1 in of_equal (BinaryIs binary.Or) x y s truths truths truths (sym p.0 ∙ t.0) (t.0) t.1 either
right_is binary.And x y s h = let p = both_right alike.Truths x y s h in let t = of_truths y s p.1 in of_equal (BinaryIs binary.And) x y s truths truths truths (sym p.0 ∙ t.0) (t.0) t.1 both
right_is binary.Equal x y s h = let p = both_right alike.Equality x y s h in of_equal (BinaryIs binary.Equal) x y s y y truths (sym p.0) refl (of_equality y s p.1) equal
right_is binary.NotEqual x y s h = let p = both_right alike.Equality x y s h in of_equal (BinaryIs binary.NotEqual) x y s y y truths (sym p.0) refl (of_equality y s p.1) differ
right_is binary.Less x y s h = let p = both_right alike.Order x y s h in let t = of_order y s p.1 in of_equal (BinaryIs binary.Less) x y s integers integers truths (sym p.0 ∙ t.0) (t.0) t.1 below
right_is binary.AtMost x y s h = let p = both_right alike.Order x y s h in let t = of_order y s p.1 in of_equal (BinaryIs binary.AtMost) x y s integers integers truths (sym p.0 ∙ t.0) (t.0) t.1 at_most
right_is binary.Greater x y s h = let p = both_right alike.Order x y s h in let t = of_order y s p.1 in of_equal (BinaryIs binary.Greater) x y s integers integers truths (sym p.0 ∙ t.0) (t.0) t.1 above
right_is binary.AtLeast x y s h = let p = both_right alike.Order x y s h in let t = of_order y s p.1 in of_equal (BinaryIs binary.AtLeast) x y s integers integers truths (sym p.0 ∙ t.0) (t.0) t.1 at_least
right_is binary.Member x truths s h = absurd (cc)
right_is binary.Member x integers s h = absurd (cc)
right_is binary.Member x naturals s h = absurd (cc)
right_is binary.Member x (constants w k n) s h = absurd (cc)
right_is binary.Member x (tuples w ns fs) s h = absurd (cc)
right_is binary.Member x (sequences i) s h = let e = right_sides i truths x s h in of_equal (BinaryIs binary.Member) x (sequences i) s i (sequences i) truths (sym e.0) refl (sym e.1) item_of
right_is binary.Member x (sets i) s h = let e = right_sides i truths x s h in of_equal (BinaryIs binary.Member) x (sets i) s i (sets i) truths (sym e.0) refl (sym e.1) member_of
right_is binary.Member x (maps k v) s h = absurd (cc)
right_is binary.Prepend x truths s h = absurd (cc)
right_is binary.Prepend x integers s h = absurd (cc)
right_is binary.Prepend x naturals s h = absurd (cc)
right_is binary.Prepend x (constants w k n) s h = absurd (cc)
right_is binary.Prepend x (tuples w ns fs) s h = absurd (cc)
right_is binary.Prepend x (sequences i) s h = let e = right_sides i (sequences i) x s h in of_equal (BinaryIs binary.Prepend) x (sequences i) s i (sequences i) (sequences i) (sym e.0) refl (sym e.1) prepended
right_is binary.Prepend x (sets i) s h = absurd (cc)
right_is binary.Prepend x (maps k v) s h = absurd (cc)
right_is binary.Append x y s h = let e = right_sides (sequences y) (sequences y) x s h in of_equal (BinaryIs binary.Append) x y s (sequences y) y (sequences y) (sym e.0) refl (sym e.1) appended
right_is binary.Concatenate x y s h = let p = both_right alike.Concatenation x y s h in let t = of_sequences y s p.1 in of_equal (BinaryIs binary.Concatenate) x y s (sequences t.0) (sequences t.0) (sequences t.0) (sym p.0 ∙ t.1) (t.1) t.2 joined
right_is binary.Plus x y s h = let p = both_right alike.Numbers x y s h in let t = of_numbers y s p.1 in of_equal (BinaryIs binary.Plus) x y s integers integers integers (sym p.0 ∙ t.0) (t.0) t.1 sum
right_is binary.Minus x y s h = let p = both_right alike.Numbers x y s h in let t = of_numbers y s p.1 in of_equal (BinaryIs binary.Minus) x y s integers integers integers (sym p.0 ∙ t.0) (t.0) t.1 difference
right_is binary.Times x y s h = let p = both_right alike.Numbers x y s h in let t = of_numbers y s p.1 in of_equal (BinaryIs binary.Times) x y s integers integers integers (sym p.0 ∙ t.0) (t.0) t.1 product
right_is binary.At x y s h = absurd (cc)

-- whatever shapes an operator takes, the left part tells, or leaves it to the right part
pub left_tells : {op : BinaryOperator} {x y s : PlainShape} → BinaryIs op x y s → (other_of_left (pairing_of op) x ≡ Ok (Some (sides y s))) ⊎ (other_of_left (pairing_of op) x ≡ Ok None)
left_tells equivalent = inl refl
left_tells implies = inl refl
left_tells either = inl refl
left_tells both = inl refl
left_tells equal = inl refl
left_tells differ = inl refl
left_tells below = inl refl
left_tells at_most = inl refl
left_tells above = inl refl
left_tells at_least = inl refl
left_tells item_of = inr refl
left_tells member_of = inr refl
left_tells prepended = inl refl
left_tells appended = inl refl
left_tells joined = inl refl
left_tells sum = inl refl
left_tells difference = inl refl
left_tells product = inl refl
left_tells at_key = inl refl

-- and the right part tells, unless the left one is a map
pub right_tells : {op : BinaryOperator} {x y s : PlainShape} → BinaryIs op x y s → (other_of_right (pairing_of op) y ≡ Ok (sides x s)) ⊎ (other_of_right (pairing_of op) y ≡ Err EmptyOfWhat)
right_tells equivalent = inl refl
right_tells implies = inl refl
right_tells either = inl refl
right_tells both = inl refl
right_tells equal = inl refl
right_tells differ = inl refl
right_tells below = inl refl
right_tells at_most = inl refl
right_tells above = inl refl
right_tells at_least = inl refl
right_tells item_of = inl refl
right_tells member_of = inl refl
right_tells prepended = inl refl
right_tells appended = inl refl
right_tells joined = inl refl
right_tells sum = inl refl
right_tells difference = inl refl
right_tells product = inl refl
right_tells at_key = inr refl

-- functions of one part
head_is : (x s : PlainShape) → value_of_one single.Item x ≡ Ok s → FunctionIs function.Head (x ∷ []) s
head_is truths s h = absurd (cc)
head_is integers s h = absurd (cc)
head_is naturals s h = absurd (cc)
head_is (constants w k n) s h = absurd (cc)
head_is (tuples w ns fs) s h = absurd (cc)
head_is (sequences i) s h = let whole : i ≡ s = cc in rw (← whole) head
head_is (sets i) s h = absurd (cc)
head_is (maps k v) s h = absurd (cc)

tail_is : (x s : PlainShape) → value_of_one single.Rest x ≡ Ok s → FunctionIs function.Tail (x ∷ []) s
tail_is truths s h = absurd (cc)
tail_is integers s h = absurd (cc)
tail_is naturals s h = absurd (cc)
tail_is (constants w k n) s h = absurd (cc)
tail_is (tuples w ns fs) s h = absurd (cc)
tail_is (sequences i) s h = let whole : sequences i ≡ s = cc in rw (← whole) tail
tail_is (sets i) s h = absurd (cc)
tail_is (maps k v) s h = absurd (cc)

length_is : (x s : PlainShape) → value_of_one single.Length x ≡ Ok s → FunctionIs function.Length (x ∷ []) s
length_is truths s h = absurd (cc)
length_is integers s h = absurd (cc)
length_is naturals s h = absurd (cc)
length_is (constants w k n) s h = absurd (cc)
length_is (tuples w ns fs) s h = absurd (cc)
length_is (sequences i) s h = let whole : integers ≡ s = cc in rw (← whole) items
length_is (sets i) s h = absurd (cc)
length_is (maps k v) s h = absurd (cc)

size_is : (x s : PlainShape) → value_of_one single.Size x ≡ Ok s → FunctionIs function.Size (x ∷ []) s
size_is truths s h = absurd (cc)
size_is integers s h = absurd (cc)
size_is naturals s h = absurd (cc)
size_is (constants w k n) s h = absurd (cc)
size_is (tuples w ns fs) s h = absurd (cc)
size_is (sequences i) s h = absurd (cc)
size_is (sets i) s h = let whole : integers ≡ s = cc in rw (← whole) members
size_is (maps k v) s h = let whole : integers ≡ s = cc in rw (← whole) keys

pub one_is : (f : Function) (k : Single) (x s : PlainShape) → arity_of f ≡ One k → value_of_one k x ≡ Ok s → FunctionIs f (x ∷ []) s
one_is function.Head k x s a h = let kind : k ≡ single.Item = cc in head_is x s (rw kind at h)
one_is function.Tail k x s a h = let kind : k ≡ single.Rest = cc in tail_is x s (rw kind at h)
one_is function.Length k x s a h = let kind : k ≡ single.Length = cc in length_is x s (rw kind at h)
one_is function.Size k x s a h = let kind : k ≡ single.Size = cc in size_is x s (rw kind at h)
one_is function.Quotient k x s a h = absurd (cc)
one_is function.Remainder k x s a h = absurd (cc)
one_is function.Insert k x s a h = absurd (cc)
one_is function.Delete k x s a h = absurd (cc)
one_is function.Union k x s a h = absurd (cc)
one_is function.Update k x s a h = absurd (cc)
one_is function.Remove k x s a h = absurd (cc)
one_is function.Defined k x s a h = absurd (cc)

-- functions of two parts: what the left part tells
quotient_left : (x y s : PlainShape) → other_of_left (Both alike.Numbers) x ≡ Ok (Some (sides y s)) → FunctionIs function.Quotient (x ∷ y ∷ []) s
quotient_left x y s h = let p = both_left alike.Numbers x y s h in let t = of_numbers x s p.1 in of_equal (λ u v w. FunctionIs function.Quotient (u ∷ v ∷ []) w) x y s integers integers integers (t.0) (sym p.0 ∙ t.0) t.1 quotient

remainder_left : (x y s : PlainShape) → other_of_left (Both alike.Numbers) x ≡ Ok (Some (sides y s)) → FunctionIs function.Remainder (x ∷ y ∷ []) s
remainder_left x y s h = let p = both_left alike.Numbers x y s h in let t = of_numbers x s p.1 in of_equal (λ u v w. FunctionIs function.Remainder (u ∷ v ∷ []) w) x y s integers integers integers (t.0) (sym p.0 ∙ t.0) t.1 remainder

insert_left : (x y s : PlainShape) → other_of_left (Members) x ≡ Ok (Some (sides y s)) → FunctionIs function.Insert (x ∷ y ∷ []) s
insert_left x y s h = let e = left_sides (sets x) (sets x) y s h in of_equal (λ u v w. FunctionIs function.Insert (u ∷ v ∷ []) w) x y s x (sets x) (sets x) refl (sym e.0) (sym e.1) inserted

delete_left : (x y s : PlainShape) → other_of_left (Members) x ≡ Ok (Some (sides y s)) → FunctionIs function.Delete (x ∷ y ∷ []) s
delete_left x y s h = let e = left_sides (sets x) (sets x) y s h in of_equal (λ u v w. FunctionIs function.Delete (u ∷ v ∷ []) w) x y s x (sets x) (sets x) refl (sym e.0) (sym e.1) deleted

union_left : (x y s : PlainShape) → other_of_left (Both alike.Union) x ≡ Ok (Some (sides y s)) → FunctionIs function.Union (x ∷ y ∷ []) s
union_left x y s h = let p = both_left alike.Union x y s h in let t = of_sets x s p.1 in of_equal (λ u v w. FunctionIs function.Union (u ∷ v ∷ []) w) x y s (sets t.0) (sets t.0) (sets t.0) (t.1) (sym p.0 ∙ t.1) t.2 united

remove_left : (x y s : PlainShape) → other_of_left (Removal) x ≡ Ok (Some (sides y s)) → FunctionIs function.Remove (x ∷ y ∷ []) s
remove_left truths y s h = absurd (cc)
remove_left integers y s h = absurd (cc)
remove_left naturals y s h = absurd (cc)
remove_left (constants w k n) y s h = absurd (cc)
remove_left (tuples w ns fs) y s h = absurd (cc)
remove_left (sequences i) y s h = absurd (cc)
remove_left (sets i) y s h = absurd (cc)
remove_left (maps k v) y s h = let e = left_sides k (maps k v) y s h in of_equal (λ u v w. FunctionIs function.Remove (u ∷ v ∷ []) w) (maps k v) y s (maps k v) k (maps k v) refl (sym e.0) (sym e.1) removed

defined_left : (x y s : PlainShape) → other_of_left (Definition) x ≡ Ok (Some (sides y s)) → FunctionIs function.Defined (x ∷ y ∷ []) s
defined_left truths y s h = absurd (cc)
defined_left integers y s h = absurd (cc)
defined_left naturals y s h = absurd (cc)
defined_left (constants w k n) y s h = absurd (cc)
defined_left (tuples w ns fs) y s h = absurd (cc)
defined_left (sequences i) y s h = absurd (cc)
defined_left (sets i) y s h = absurd (cc)
defined_left (maps k v) y s h = let e = left_sides k truths y s h in of_equal (λ u v w. FunctionIs function.Defined (u ∷ v ∷ []) w) (maps k v) y s (maps k v) k truths refl (sym e.0) (sym e.1) defined

pub two_left_is : (f : Function) (k : Pairing) (x y s : PlainShape) → arity_of f ≡ Two k → other_of_left k x ≡ Ok (Some (sides y s)) → FunctionIs f (x ∷ y ∷ []) s
two_left_is function.Head k x y s a h = absurd (cc)
two_left_is function.Tail k x y s a h = absurd (cc)
two_left_is function.Length k x y s a h = absurd (cc)
two_left_is function.Size k x y s a h = absurd (cc)
two_left_is function.Quotient k x y s a h = let kind : k ≡ Both alike.Numbers = cc in quotient_left x y s (rw kind at h)
two_left_is function.Remainder k x y s a h = let kind : k ≡ Both alike.Numbers = cc in remainder_left x y s (rw kind at h)
two_left_is function.Insert k x y s a h = let kind : k ≡ Members = cc in insert_left x y s (rw kind at h)
two_left_is function.Delete k x y s a h = let kind : k ≡ Members = cc in delete_left x y s (rw kind at h)
two_left_is function.Union k x y s a h = let kind : k ≡ Both alike.Union = cc in union_left x y s (rw kind at h)
two_left_is function.Update k x y s a h = absurd (cc)
two_left_is function.Remove k x y s a h = let kind : k ≡ Removal = cc in remove_left x y s (rw kind at h)
two_left_is function.Defined k x y s a h = let kind : k ≡ Definition = cc in defined_left x y s (rw kind at h)

-- functions of two parts: what the right part tells
quotient_right : (x y s : PlainShape) → other_of_right (Both alike.Numbers) y ≡ Ok (sides x s) → FunctionIs function.Quotient (x ∷ y ∷ []) s
quotient_right x y s h = let p = both_right alike.Numbers x y s h in let t = of_numbers y s p.1 in of_equal (λ u v w. FunctionIs function.Quotient (u ∷ v ∷ []) w) x y s integers integers integers (sym p.0 ∙ t.0) (t.0) t.1 quotient

remainder_right : (x y s : PlainShape) → other_of_right (Both alike.Numbers) y ≡ Ok (sides x s) → FunctionIs function.Remainder (x ∷ y ∷ []) s
remainder_right x y s h = let p = both_right alike.Numbers x y s h in let t = of_numbers y s p.1 in of_equal (λ u v w. FunctionIs function.Remainder (u ∷ v ∷ []) w) x y s integers integers integers (sym p.0 ∙ t.0) (t.0) t.1 remainder

insert_right : (x y s : PlainShape) → other_of_right (Members) y ≡ Ok (sides x s) → FunctionIs function.Insert (x ∷ y ∷ []) s
insert_right x truths s h = absurd (cc)
insert_right x integers s h = absurd (cc)
insert_right x naturals s h = absurd (cc)
insert_right x (constants w k n) s h = absurd (cc)
insert_right x (tuples w ns fs) s h = absurd (cc)
insert_right x (sequences i) s h = absurd (cc)
insert_right x (sets i) s h = let e = right_sides i (sets i) x s h in of_equal (λ u v w. FunctionIs function.Insert (u ∷ v ∷ []) w) x (sets i) s i (sets i) (sets i) (sym e.0) refl (sym e.1) inserted
insert_right x (maps k v) s h = absurd (cc)

delete_right : (x y s : PlainShape) → other_of_right (Members) y ≡ Ok (sides x s) → FunctionIs function.Delete (x ∷ y ∷ []) s
delete_right x truths s h = absurd (cc)
delete_right x integers s h = absurd (cc)
delete_right x naturals s h = absurd (cc)
delete_right x (constants w k n) s h = absurd (cc)
delete_right x (tuples w ns fs) s h = absurd (cc)
delete_right x (sequences i) s h = absurd (cc)
delete_right x (sets i) s h = let e = right_sides i (sets i) x s h in of_equal (λ u v w. FunctionIs function.Delete (u ∷ v ∷ []) w) x (sets i) s i (sets i) (sets i) (sym e.0) refl (sym e.1) deleted
delete_right x (maps k v) s h = absurd (cc)

union_right : (x y s : PlainShape) → other_of_right (Both alike.Union) y ≡ Ok (sides x s) → FunctionIs function.Union (x ∷ y ∷ []) s
union_right x y s h = let p = both_right alike.Union x y s h in let t = of_sets y s p.1 in of_equal (λ u v w. FunctionIs function.Union (u ∷ v ∷ []) w) x y s (sets t.0) (sets t.0) (sets t.0) (sym p.0 ∙ t.1) (t.1) t.2 united

pub two_right_is : (f : Function) (k : Pairing) (x y s : PlainShape) → arity_of f ≡ Two k → other_of_right k y ≡ Ok (sides x s) → FunctionIs f (x ∷ y ∷ []) s
two_right_is function.Head k x y s a h = absurd (cc)
two_right_is function.Tail k x y s a h = absurd (cc)
two_right_is function.Length k x y s a h = absurd (cc)
two_right_is function.Size k x y s a h = absurd (cc)
two_right_is function.Quotient k x y s a h = let kind : k ≡ Both alike.Numbers = cc in quotient_right x y s (rw kind at h)
two_right_is function.Remainder k x y s a h = let kind : k ≡ Both alike.Numbers = cc in remainder_right x y s (rw kind at h)
two_right_is function.Insert k x y s a h = let kind : k ≡ Members = cc in insert_right x y s (rw kind at h)
two_right_is function.Delete k x y s a h = let kind : k ≡ Members = cc in delete_right x y s (rw kind at h)
two_right_is function.Union k x y s a h = let kind : k ≡ Both alike.Union = cc in union_right x y s (rw kind at h)
two_right_is function.Update k x y s a h = absurd (cc)
two_right_is function.Remove k x y s a h = let kind : k ≡ Removal = cc in let none : Err EmptyOfWhat ≡ Ok (sides x s) = rw kind at h in absurd (cc)
two_right_is function.Defined k x y s a h = let kind : k ≡ Definition = cc in let none : Err EmptyOfWhat ≡ Ok (sides x s) = rw kind at h in absurd (cc)

-- the one function of three parts
pub update_is : (f : Function) (k v : PlainShape) → arity_of f ≡ Update → FunctionIs f (maps k v ∷ k ∷ v ∷ []) (maps k v)
update_is function.Head k v a = absurd (cc)
update_is function.Tail k v a = absurd (cc)
update_is function.Length k v a = absurd (cc)
update_is function.Size k v a = absurd (cc)
update_is function.Quotient k v a = absurd (cc)
update_is function.Remainder k v a = absurd (cc)
update_is function.Insert k v a = absurd (cc)
update_is function.Delete k v a = absurd (cc)
update_is function.Union k v a = absurd (cc)
update_is function.Update k v a = updated
update_is function.Remove k v a = absurd (cc)
update_is function.Defined k v a = absurd (cc)
