-- What a sort means by the types of a text (profile), in words that know nothing of refusals.
use Rattle.std.specs.Prelude.{◌≡◌, ◌<◌, Some}
use Rattle.std.specs.List.{AllByRecursion}
use Rattle.ioa_operators.specs.Shapes.{PlainShape, truths, integers, naturals, sequences, sets, maps}
use Rattle.ioa_operators.specs.ShapeHeight.{height}
use Rattle.ioa_terms.specs.declared.name.Name.TheVariants.{Word}
use Rattle.ioa_terms.specs.Sorted.{shape_named}
use Rattle.ioa_terms.specs.PlainSort as sort
use Rattle.ioa_terms.specs.PlainSort.{PlainSort}
use Rattle.ioa_sort_rules.specs.DeclaredTypes.{TupleTypes, AreAllDeclared}
use Rattle.ioa_names.specs.NameTables.{AreDistinct}
use Rattle.ioa_names.specs.Views.{AreWords}
use Rattle.ioa_types.specs.TypeTables.{TypeTable}
use Rattle.ioa_types.specs.TextTypes.{PlainTextTypes}
use Rattle.ioa_types.specs.declared.height.TheConstants.{SHAPE_LIMIT}

-- a sort means a shape: a named type has its declared shape, and all else is as it is written
abbrev pub Means : TypeTable → PlainSort → PlainShape → Type 0
Means types sort.booleans x = x ≡ truths
Means types sort.integers x = x ≡ integers
Means types sort.naturals x = x ≡ naturals
Means types (sort.sequences s) x = (y : PlainShape) × Means types s y × (x ≡ sequences y)
Means types (sort.sets s) x = (y : PlainShape) × Means types s y × (x ≡ sets y)
Means types (sort.maps k v) x =
    (y : PlainShape) × (z : PlainShape) × Means types k y × Means types v z × (x ≡ maps y z)
Means types (sort.named_type w) x = shape_named (Word w) types ≡ Some x

-- the tuple types of a text, by their names
abbrev pub tuple_types : TypeTable → TupleTypes
tuple_types types w = shape_named (Word w) types

-- types that were declared one after another: each tuple type in them is the declared one of its name, and none is too
-- high
pub record IsTypeTable (types : TypeTable) : Type 0 where
  pub declared : AreAllDeclared (tuple_types types) types
  pub low : AllByRecursion (λ t. height t.1 < SHAPE_LIMIT) types

-- types and constants that were declared one after another; each constant is a word, and none is declared twice
pub record AreTextTypes (t : PlainTextTypes) : Type 0 where
  pub types : IsTypeTable t.types
  pub constants : AreAllDeclared (tuple_types t.types) t.constants
  pub named : AreWords t.constants
  pub differ : AreDistinct t.constants
