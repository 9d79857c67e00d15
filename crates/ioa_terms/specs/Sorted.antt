-- Which shape a term's value has (profile), by the shapes of the names in view alone. In a term naturals count as
-- integers: a difference of two naturals may be negative.
use Rattle.std.specs.Prelude.{◌≡◌, ℕ, true, if◌then◌else◌, List, [], ◌∷◌, Option, Some, None, map, slice_get}
use Rattle.std.specs.Option.{option_and_then, option_map}
use Rattle.std.specs.List.{AllByRecursion}
use Rattle.ioa_values.specs.Data.{Data}
use Rattle.ioa_operators.specs.Operators.{function_named}
use Rattle.ioa_operators.specs.Shapes.{PlainShape, truths, integers, naturals, constants, tuples, sequences, sets, maps}
use Rattle.ioa_operators.specs.Shapes.{PlainShapes, no_shapes, shape, has_shape, field_position}
use Rattle.ioa_terms.specs.declared.name.Name.{Name}
use Rattle.ioa_terms.specs.declared.name.Name.TheVariants.{Word}
use Rattle.ioa_terms.specs.Bindings.{Bindings, same_name, lookup}
use Rattle.ioa_terms.specs.Inboxes.{inboxes_word}
use Rattle.ioa_terms.specs.Meaning.{is_inbox_word}
use Rattle.ioa_terms.specs.PlainTerm as plain
use Rattle.ioa_terms.specs.PlainTerm.{PlainTerm, PlainTerms, name, one, two, call, display, field, no_terms, term}
use Rattle.ioa_operators.specs.declared.operator.UnaryOperator.{UnaryOperator}
use Rattle.ioa_operators.specs.declared.operator.UnaryOperator.TheVariants.{Not, Negative}
use Rattle.ioa_operators.specs.declared.operator.BinaryOperator.{BinaryOperator}
use Rattle.ioa_operators.specs.declared.operator.BinaryOperator.TheVariants.{Equivalent, Implies, Or, And, Equal}
use Rattle.ioa_operators.specs.declared.operator.BinaryOperator.TheVariants.{NotEqual, Less, AtMost, Greater, AtLeast}
use Rattle.ioa_operators.specs.declared.operator.BinaryOperator.TheVariants.{Member, Prepend, Append, Concatenate}
use Rattle.ioa_operators.specs.declared.operator.BinaryOperator.TheVariants.{Plus, Minus, Times, At}
use Rattle.ioa_operators.specs.declared.operator.Function.{Function}
use Rattle.ioa_operators.specs.declared.operator.Function.TheVariants.{Head, Tail, Length, Size, Quotient, Remainder}
use Rattle.ioa_operators.specs.declared.operator.Function.TheVariants.{Insert, Delete, Union, Update, Remove, Defined}
use Rattle.ioa_operators.specs.declared.shape.DisplayForm.{DisplayForm}
use Rattle.ioa_operators.specs.declared.shape.DisplayForm.TheVariants.{Braces, Brackets}
use Rattle.ioa_operators.specs.declared.shape.Shape.{Shape}

-- a shape with integers for naturals, inside sequences, sets and maps too; a tuple type keeps its fields
abbrev pub shape_in_terms : PlainShape → PlainShape
shape_in_terms truths = truths
shape_in_terms integers = integers
shape_in_terms naturals = integers
shape_in_terms (constants type from many) = constants type from many
shape_in_terms (tuples type names fields) = tuples type names fields
shape_in_terms (sequences s) = sequences (shape_in_terms s)
shape_in_terms (sets s) = sets (shape_in_terms s)
shape_in_terms (maps k v) = maps (shape_in_terms k) (shape_in_terms v)

-- an operator before a term: the shapes of its side and of its value
pub data UnaryIs : UnaryOperator → PlainShape → PlainShape → Type 0 where
  negation : UnaryIs Not truths truths
  negative : UnaryIs Negative integers integers

-- an operator between two terms: the shapes of its sides and of its value
pub data BinaryIs : BinaryOperator → PlainShape → PlainShape → PlainShape → Type 0 where
  equivalent : BinaryIs Equivalent truths truths truths
  implies : BinaryIs Implies truths truths truths
  either : BinaryIs Or truths truths truths
  both : BinaryIs And truths truths truths
  equal : {x : PlainShape} → BinaryIs Equal x x truths
  differ : {x : PlainShape} → BinaryIs NotEqual x x truths
  below : BinaryIs Less integers integers truths
  at_most : BinaryIs AtMost integers integers truths
  above : BinaryIs Greater integers integers truths
  at_least : BinaryIs AtLeast integers integers truths
  item_of : {x : PlainShape} → BinaryIs Member x (sequences x) truths
  member_of : {x : PlainShape} → BinaryIs Member x (sets x) truths
  prepended : {x : PlainShape} → BinaryIs Prepend x (sequences x) (sequences x)
  appended : {x : PlainShape} → BinaryIs Append (sequences x) x (sequences x)
  joined : {x : PlainShape} → BinaryIs Concatenate (sequences x) (sequences x) (sequences x)
  sum : BinaryIs Plus integers integers integers
  difference : BinaryIs Minus integers integers integers
  product : BinaryIs Times integers integers integers
  at_key : {k v : PlainShape} → BinaryIs At (maps k v) k v

-- a function: the shapes of its parts and of its value
pub data FunctionIs : Function → List PlainShape → PlainShape → Type 0 where
  head : {x : PlainShape} → FunctionIs Head (sequences x ∷ []) x
  tail : {x : PlainShape} → FunctionIs Tail (sequences x ∷ []) (sequences x)
  items : {x : PlainShape} → FunctionIs Length (sequences x ∷ []) integers
  members : {x : PlainShape} → FunctionIs Size (sets x ∷ []) integers
  keys : {k v : PlainShape} → FunctionIs Size (maps k v ∷ []) integers
  quotient : FunctionIs Quotient (integers ∷ integers ∷ []) integers
  remainder : FunctionIs Remainder (integers ∷ integers ∷ []) integers
  inserted : {x : PlainShape} → FunctionIs Insert (x ∷ sets x ∷ []) (sets x)
  deleted : {x : PlainShape} → FunctionIs Delete (x ∷ sets x ∷ []) (sets x)
  united : {x : PlainShape} → FunctionIs Union (sets x ∷ sets x ∷ []) (sets x)
  updated : {k v : PlainShape} → FunctionIs Update (maps k v ∷ k ∷ v ∷ []) (maps k v)
  removed : {k v : PlainShape} → FunctionIs Remove (maps k v ∷ k ∷ []) (maps k v)
  defined : {k v : PlainShape} → FunctionIs Defined (maps k v ∷ k ∷ []) truths

-- the shapes of the names in view, as declared; the first of a name counts
abbrev pub NameShapes : Type 0
NameShapes = List (Name × PlainShape)

abbrev pub shape_named : Name → NameShapes → Option PlainShape
shape_named x [] = None
shape_named x (n ∷ names) = if same_name x n.0 then Some n.1 else shape_named x names

-- a call: the shapes of its parts and of its value. `inbox` takes a key of the map of the inboxes, if that is in view,
-- and gives what the map has there
abbrev pub CallBy : Option Function → NameShapes → List ℕ → List PlainShape → PlainShape → Type 0
CallBy (Some f) names w xs s = FunctionIs f xs s
CallBy None names w xs s =
    (k : PlainShape) × (is_inbox_word w ≡ true) × (xs ≡ k ∷ [])
    × (option_map shape_in_terms (shape_named (Word inboxes_word) names) ≡ Some (maps k s))

abbrev pub CallIs : NameShapes → List ℕ → List PlainShape → PlainShape → Type 0
CallIs names w xs s = CallBy (function_named w) names w xs s

-- the shape of a field of a tuple type
abbrev pub listed_shapes : PlainShapes → List PlainShape
listed_shapes no_shapes = []
listed_shapes (shape s more) = s ∷ listed_shapes more

abbrev pub field_shape : List ℕ → PlainShape → Option PlainShape
field_shape w truths = None
field_shape w integers = None
field_shape w naturals = None
field_shape w (constants type from many) = None
field_shape w (tuples type names fields) = option_and_then (slice_get (listed_shapes fields)) (field_position w names)
field_shape w (sequences s) = None
field_shape w (sets s) = None
field_shape w (maps k v) = None

-- a display: the shapes of its parts and of its value; a tuple has all the fields of its type, in their order
abbrev pub DisplayIs : DisplayForm → List PlainShape → PlainShape → Type 0
DisplayIs Braces xs (sequences x) = AllByRecursion (λ y. y ≡ x) xs
DisplayIs Braces xs (sets x) = AllByRecursion (λ y. y ≡ x) xs
DisplayIs Braces xs (maps k v) = xs ≡ []
DisplayIs Brackets xs (tuples type names fields) = xs ≡ map shape_in_terms (listed_shapes fields)
DisplayIs form xs s = ⊥

abbrev mutual
  -- a term has a shape: a name has its own, with integers for naturals, and a display has the one of its annotation
  pub HasShape : {N C : Type 0} → NameShapes → PlainTerm N C Shape → PlainShape → Type 0
  HasShape names (plain.number n) s = s ≡ integers
  HasShape names (plain.truth b) s = s ≡ truths
  HasShape names (name x at) s = option_map shape_in_terms (shape_named x names) ≡ Some s
  HasShape names (one op a) s = (x : PlainShape) × HasShape names a x × UnaryIs op x s
  HasShape names (two op a b) s =
      (x : PlainShape) × (y : PlainShape) × HasShape names a x × HasShape names b y × BinaryIs op x y s
  HasShape names (call w c ts) s = (xs : List PlainShape) × HaveShapes names ts xs × CallIs names w xs s
  HasShape names (display form d ts) s =
      (xs : List PlainShape) × (s ≡ d) × HaveShapes names ts xs × DisplayIs form xs d
  HasShape names (field a w d) s =
      HasShape names a d × (option_map shape_in_terms (field_shape w d) ≡ Some s)

  -- terms have shapes, one by one
  pub HaveShapes : {N C : Type 0} → NameShapes → PlainTerms N C Shape → List PlainShape → Type 0
  HaveShapes names no_terms [] = Unit {0}
  HaveShapes names no_terms (x ∷ xs) = ⊥
  HaveShapes names (term t more) [] = ⊥
  HaveShapes names (term t more) (x ∷ xs) = HasShape names t x × HaveShapes names more xs

-- each value of an environment has the shape of its name
abbrev pub IsShaped : NameShapes → Bindings → Type 0
IsShaped names e = (x : Name) (s : PlainShape) (v : Data) →
    shape_named x names ≡ Some s → lookup x e ≡ Some v → has_shape s v ≡ true
