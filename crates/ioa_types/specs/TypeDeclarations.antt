-- What the declaration of a type declares (profile), in words that know nothing of refusals or of an order of tests.
use Rattle.std.specs.Prelude.{◌≡◌, ◌<◌, ℕ, List, [], ◌∷◌, ◌++◌, length, map}
use Rattle.std.specs.List.{AllZip, IsDistinct}
use Rattle.ioa_operators.specs.Shapes.{PlainShape, constants, tuples, shapes_of}
use Rattle.ioa_operators.specs.ShapeHeight.{height}
use Rattle.ioa_terms.specs.declared.name.Name.TheVariants.{Word}
use Rattle.ioa_terms.specs.Bindings.{same_word}
use Rattle.ioa_terms.specs.Sorted.{NameShapes}
use Rattle.ioa_source.specs.PlainText.{enumeration, tuple_of}
use Rattle.ioa_source.specs.Sides.{SourceDeclared, SourceForm, SourceType}
use Rattle.ioa_names.specs.NameTables.{AreDistinct}
use Rattle.ioa_types.specs.TypeTables.{TypeTable}
use Rattle.ioa_types.specs.Meanings.{Means}
use Rattle.ioa_types.specs.TextTypes.{PlainTextTypes}
use Rattle.ioa_types.specs.declared.height.TheConstants.{SHAPE_LIMIT}

-- a tuple type: each field has a name of its own and the shape that its sort means, and the type is not too high
pub record IsTupleOf (types : TypeTable) (w : List ℕ) (fs : List SourceDeclared) (s : PlainShape) : Type 0 where
  pub shapes : List PlainShape
  pub fields : AllZip (λ f x. Means types f.sort x) fs shapes
  pub names_differ : IsDistinct same_word (map (λ f. f.name) fs)
  pub same : s ≡ tuples w (map (λ f. f.name) fs) (shapes_of shapes)
  pub low : height s < SHAPE_LIMIT

-- the shape of a type behind others: the constants of an enumeration are numbered behind those before
abbrev pub IsShapeOf : PlainTextTypes → List ℕ → SourceForm → PlainShape → Type 0
IsShapeOf t w (enumeration ws) s = s ≡ constants w (length t.constants) (length ws)
IsShapeOf t w (tuple_of fs) s = IsTupleOf t.types w fs s

-- the constants of a type, each with the type's shape
abbrev pub constants_of : SourceForm → PlainShape → NameShapes
constants_of (enumeration ws) s = map (λ w. (Word w, s)) ws
constants_of (tuple_of fs) s = []

-- one more declaration: its type and its constants stand behind those before, and names still differ
pub record DeclaresType (t : PlainTextTypes) (d : SourceType) (u : PlainTextTypes) : Type 0 where
  pub shape : PlainShape
  pub form : IsShapeOf t d.name d.form shape
  pub types : u.types ≡ t.types ++ (Word d.name, shape) ∷ []
  pub constants : u.constants ≡ t.constants ++ constants_of d.form shape
  pub types_differ : AreDistinct u.types
  pub constants_differ : AreDistinct u.constants
