-- The tuple types that a text declares, each once (profile): by their names they are told apart.
use Rattle.std.specs.Prelude.{◌≡◌, ℕ, List, Option, Some}
use Rattle.std.specs.List.{AllByRecursion}
use Rattle.ioa_operators.specs.Shapes.{PlainShape, truths, integers, naturals, constants, tuples, sequences, sets, maps}
use Rattle.ioa_operators.specs.Shapes.{PlainShapes, no_shapes, shape}
use Rattle.ioa_terms.specs.Sorted.{NameShapes}

-- the tuple type of a name, if there is one
abbrev pub TupleTypes : Type 0
TupleTypes = List ℕ → Option PlainShape

abbrev mutual
  -- each tuple type in a shape is the declared one of its name
  pub IsDeclared : TupleTypes → PlainShape → Type 0
  IsDeclared types truths = Unit {0}
  IsDeclared types integers = Unit {0}
  IsDeclared types naturals = Unit {0}
  IsDeclared types (constants w from many) = Unit {0}
  IsDeclared types (tuples w names fields) = (types w ≡ Some (tuples w names fields)) × AreDeclared types fields
  IsDeclared types (sequences s) = IsDeclared types s
  IsDeclared types (sets s) = IsDeclared types s
  IsDeclared types (maps k v) = IsDeclared types k × IsDeclared types v

  -- the same of the shapes of fields
  pub AreDeclared : TupleTypes → PlainShapes → Type 0
  AreDeclared types no_shapes = Unit {0}
  AreDeclared types (shape s more) = IsDeclared types s × AreDeclared types more

-- the same of the shapes of the names in view
abbrev pub AreAllDeclared : TupleTypes → NameShapes → Type 0
AreAllDeclared types names = AllByRecursion (λ n. IsDeclared types n.1) names
