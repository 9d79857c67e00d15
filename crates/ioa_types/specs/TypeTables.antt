-- The types that a text declares, in order, and the shapes of sorts (profile). A shape has the fields of tuple types
-- in it.
use Rattle.std.specs.Prelude.{ℕ, Bool, true, not, ◌&&◌, nat_lt, if◌then◌else◌}
use Rattle.std.specs.Prelude.{List, [], ◌∷◌, ◌++◌, Option, Some, None, Result, Ok, Err, map}
use Rattle.std.specs.List.{list_any}
use Rattle.ioa_values.specs.Outcome.{and_then}
use Rattle.ioa_operators.specs.Shapes.{PlainShape, truths, integers, naturals, tuples, sequences, sets, maps}
use Rattle.ioa_operators.specs.Shapes.{shapes_of}
use Rattle.ioa_operators.specs.ShapeHeight.{height}
use Rattle.ioa_terms.specs.declared.name.Name.TheVariants.{Word}
use Rattle.ioa_terms.specs.Bindings.{same_word}
use Rattle.ioa_terms.specs.Sorted.{NameShapes, shape_named}
use Rattle.ioa_terms.specs.PlainSort as sort
use Rattle.ioa_terms.specs.PlainSort.{PlainSort}
use Rattle.ioa_source.specs.Sides.{SourceDeclared}
use Rattle.ioa_refusals.specs.declared.refusal.Refusal.{Refusal}
use Rattle.ioa_refusals.specs.declared.refusal.Refusal.TheVariants.{Unknown, Twice, Limit}
use Rattle.ioa_types.specs.declared.height.TheConstants.{SHAPE_LIMIT}

-- the types in the order of their declarations
abbrev pub TypeTable : Type 0
TypeTable = NameShapes

-- words with their shapes as names with their shapes (view)
abbrev pub named_shapes : List (List ℕ × PlainShape) → TypeTable
named_shapes ts = map (λ t. (Word t.0, t.1)) ts

-- a shape, if it is not too high
unfoldable pub limited : PlainShape → Result PlainShape Refusal
limited s = if nat_lt (height s) SHAPE_LIMIT then Ok s else Err Limit

-- the shape that a type's name has
abbrev pub known_type : Option PlainShape → Result PlainShape Refusal
known_type None = Err Unknown
known_type (Some s) = Ok s

-- the shape of a sort
abbrev pub shape_of_sort : TypeTable → PlainSort → Result PlainShape Refusal
shape_of_sort types sort.booleans = Ok truths
shape_of_sort types sort.integers = Ok integers
shape_of_sort types sort.naturals = Ok naturals
shape_of_sort types (sort.sequences s) = and_then (shape_of_sort types s) (λ x. limited (sequences x))
shape_of_sort types (sort.sets s) = and_then (shape_of_sort types s) (λ x. limited (sets x))
shape_of_sort types (sort.maps k v) =
    and_then (shape_of_sort types k) (λ x. and_then (shape_of_sort types v) (λ y. limited (maps x y)))
shape_of_sort types (sort.named_type w) = known_type (shape_named (Word w) types)

-- the shapes of the sorts of fields
abbrev pub field_shapes : TypeTable → List SourceDeclared → Result (List PlainShape) Refusal
field_shapes types [] = Ok []
field_shapes types (f ∷ fs) =
    and_then (shape_of_sort types f.sort) (λ s. and_then (field_shapes types fs) (λ ss. Ok (s ∷ ss)))

-- whether names differ from each other, and from those before
abbrev pub are_new : List (List ℕ) → List (List ℕ) → Bool
are_new before [] = true
are_new before (w ∷ ws) = not (list_any (same_word w) before) && are_new (before ++ w ∷ []) ws

-- the names of fields, which differ
abbrev pub field_names : List SourceDeclared → Result (List (List ℕ)) Refusal
field_names fs = if are_new [] (map (λ f. f.name) fs) then Ok (map (λ f. f.name) fs) else Err Twice

-- a tuple type: its fields' names first
abbrev pub tuple_shape : TypeTable → List ℕ → List SourceDeclared → Result PlainShape Refusal
tuple_shape types w fs = and_then (field_names fs)
    (λ ns. and_then (field_shapes types fs) (λ ss. limited (tuples w ns (shapes_of ss))))
