-- What a run evaluates of a term (profile): each part of it, and not only what the whole gives.
use Rattle.std.specs.Prelude.{◌≡◌, ℕ, pos, true, List, [], ◌∷◌, ◌++◌, Option, Some, None}
use Rattle.std.specs.Option.{IfSome, option_map}
use Rattle.ioa_values.specs.Data.{Data}
use Rattle.ioa_operators.specs.Operators.{function_named}
use Rattle.ioa_operators.specs.Shapes.{PlainShape, truths, integers, maps, has_shape}
use Rattle.ioa_operators.specs.declared.operator.BinaryOperator.TheVariants.{Plus}
use Rattle.ioa_operators.specs.declared.operator.Function.{Function}
use Rattle.ioa_operators.specs.declared.shape.Shape.{Shape}
use Rattle.ioa_terms.specs.declared.callee.Callee.{Callee}
use Rattle.ioa_terms.specs.declared.name.Name.{Name}
use Rattle.ioa_terms.specs.declared.name.Name.TheVariants.{Word}
use Rattle.ioa_terms.specs.Bindings.{Bindings, lookup}
use Rattle.ioa_terms.specs.Inboxes.{inboxes_word}
use Rattle.ioa_terms.specs.Meaning.{is_inbox_word, value}
use Rattle.ioa_terms.specs.PlainTerm as plain
use Rattle.ioa_terms.specs.PlainTerm.{PlainTerm, PlainTerms, name, one, two, call, display, field, no_terms, term}
use Rattle.ioa_terms.specs.Sorted.{UnaryIs, BinaryIs, FunctionIs, DisplayIs, field_shape, shape_in_terms}

-- a value, if there is one, has a shape
abbrev pub IsOfShape : PlainShape → Option Data → Type 0
IsOfShape s o = IfSome o (λ v. has_shape s v ≡ true)

-- a name has a value, and the value has a shape
abbrev pub HasValueOf : Bindings → Name → PlainShape → Type 0
HasValueOf e x s = (v : Data) × (lookup x e ≡ Some v) × (has_shape s v ≡ true)

-- a call takes parts of these shapes and gives a value of this one: by the rule of its function; `inbox` takes a key of
-- the map of the inboxes, which is there
abbrev pub TakesParts : Option Function → Bindings → List ℕ → List PlainShape → PlainShape → Type 0
TakesParts (Some f) e w xs s = FunctionIs f xs s
TakesParts None e w xs s =
    (k : PlainShape) × (is_inbox_word w ≡ true) × (xs ≡ k ∷ []) × HasValueOf e (Word inboxes_word) (maps k s)

abbrev mutual
  -- a term has a shape throughout: each name has its value; the parts of an operator, a function, a display or a field
  -- have shapes throughout that it takes, whether they have values or not, also the right side that a left one decides;
  -- and what it gives, if anything, has the shape
  pub HasShapeThroughout : {N C : Type 0} → Bindings → PlainTerm N C Shape → PlainShape → Type 0
  HasShapeThroughout e (plain.number n) s = s ≡ integers
  HasShapeThroughout e (plain.truth b) s = s ≡ truths
  HasShapeThroughout e (name x at) s = HasValueOf e x s
  HasShapeThroughout e (one op a) s =
      (x : PlainShape) × HasShapeThroughout e a x
      × UnaryIs op x s × IsOfShape s (value (one op a) e)
  HasShapeThroughout e (two op a b) s =
      (x : PlainShape) × (y : PlainShape) × HasShapeThroughout e a x × HasShapeThroughout e b y
      × BinaryIs op x y s × IsOfShape s (value (two op a b) e)
  HasShapeThroughout e (call w c ts) s =
      (xs : List PlainShape) × HaveShapesThroughout e ts xs
      × TakesParts (function_named w) e w xs s × IsOfShape s (value (call w c ts) e)
  HasShapeThroughout e (display form d ts) s =
      (xs : List PlainShape) × (s ≡ d) × HaveShapesThroughout e ts xs
      × DisplayIs form xs d × IsOfShape s (value (display form d ts) e)
  HasShapeThroughout e (field a w d) s =
      HasShapeThroughout e a d
      × (option_map shape_in_terms (field_shape w d) ≡ Some s) × IsOfShape s (value (field a w d) e)

  -- terms have shapes throughout, one by one
  pub HaveShapesThroughout : {N C : Type 0} → Bindings → PlainTerms N C Shape → List PlainShape → Type 0
  HaveShapesThroughout e no_terms [] = Unit {0}
  HaveShapesThroughout e no_terms (x ∷ xs) = ⊥
  HaveShapesThroughout e (term t more) [] = ⊥
  HaveShapesThroughout e (term t more) (x ∷ xs) = HasShapeThroughout e t x × HaveShapesThroughout e more xs

abbrev mutual
  -- a term and all its parts, at any depth
  pub parts_of : {N C : Type 0} → PlainTerm N C Shape → List (PlainTerm N C Shape)
  parts_of (plain.number n) = plain.number n ∷ []
  parts_of (plain.truth b) = plain.truth b ∷ []
  parts_of (name x at) = name x at ∷ []
  parts_of (one op a) = one op a ∷ parts_of a
  parts_of (two op a b) = two op a b ∷ (parts_of a ++ parts_of b)
  parts_of (call w c ts) = call w c ts ∷ all_parts_of ts
  parts_of (display form d ts) = display form d ts ∷ all_parts_of ts
  parts_of (field a w d) = field a w d ∷ parts_of a

  pub all_parts_of : {N C : Type 0} → PlainTerms N C Shape → List (PlainTerm N C Shape)
  all_parts_of no_terms = []
  all_parts_of (term t more) = parts_of t ++ all_parts_of more

-- `true + 1`
abbrev pub sum_of_truth : PlainTerm ℕ Callee Shape
sum_of_truth = two Plus (plain.truth true) (plain.number (pos 1))
