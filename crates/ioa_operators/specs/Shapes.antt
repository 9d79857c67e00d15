-- Shapes (profile): what sorts mean, with the enumerations and tuple types that they name written out.
use Rattle.std.specs.Prelude.{ℕ, pos, int_le, nat_le, nat_lt, nat_eq, ◌+◌, Bool, true, false, ◌&&◌, if◌then◌else◌}
use Rattle.std.specs.Prelude.{List, [], ◌∷◌, Option, Some, None, slice_get, slice_set}
use Rattle.std.specs.List.{position}
use Rattle.std.specs.Option.{option_and_then, option_map}
use lib.Pointwise.{pointwise}
use Rattle.ioa_values.specs.Data.{Data, number, truth, constant, tuple, sequence, finite_set, finite_map}
use Rattle.ioa_values.specs.Data.{Items, no_items, item, Entries, no_entries, entry, items_of}
use Rattle.ioa_values.specs.Collections.{set_of}
use Rattle.ioa_operators.specs.Operators.{as_tuple, sequence_of, finite_set_of, finite_map_of}
use Rattle.ioa_operators.specs.declared.shape.DisplayForm.{DisplayForm}
use Rattle.ioa_operators.specs.declared.shape.DisplayForm.TheVariants.{Braces, Brackets}

mutual
  -- the truth values; the whole numbers; those that are not negative; the constants of an enumeration, by the index of
  -- the first and their number; the tuples of a type, with the names and the shapes of its fields; the sequences and
  -- sets of items of a shape; the maps of keys and values of two shapes
  pub data PlainShape : Type 0 where
    truths : PlainShape
    integers : PlainShape
    naturals : PlainShape
    constants : (type : List ℕ) → (from : ℕ) → (many : ℕ) → PlainShape
    tuples : (type : List ℕ) → (names : List (List ℕ)) → (fields : PlainShapes) → PlainShape
    sequences : PlainShape → PlainShape
    sets : PlainShape → PlainShape
    maps : PlainShape → PlainShape → PlainShape

  pub data PlainShapes : Type 0 where
    no_shapes : PlainShapes
    shape : PlainShape → PlainShapes → PlainShapes

abbrev pub shapes_of : List PlainShape → PlainShapes
shapes_of [] = no_shapes
shapes_of (s ∷ more) = shape s (shapes_of more)

-- whether a value has a shape: a negative number is no natural, at any depth
abbrev mutual
  pub has_shape : PlainShape → Data → Bool
  has_shape truths (truth b) = true
  has_shape integers (number z) = true
  has_shape naturals (number z) = int_le (pos 0) z
  has_shape (constants w from many) (constant k) = nat_le from k && nat_lt k (from + many)
  has_shape (tuples w names ss) (tuple ds) = have_shapes ss ds
  has_shape (sequences s) (sequence ds) = all_have s ds
  has_shape (sets s) (finite_set ds) = all_have s ds
  has_shape (maps k v) (finite_map es) = entries_have k v es
  has_shape _ _ = false

  -- whether values have shapes, one by one
  pub have_shapes : PlainShapes → Items → Bool
  have_shapes no_shapes no_items = true
  have_shapes (shape s ss) (item d ds) = has_shape s d && have_shapes ss ds
  have_shapes _ _ = false

  -- whether values all have a shape
  pub all_have : PlainShape → Items → Bool
  all_have s no_items = true
  all_have s (item d ds) = has_shape s d && all_have s ds

  -- whether keys have a shape and values another
  pub entries_have : PlainShape → PlainShape → Entries → Bool
  entries_have k v no_entries = true
  entries_have k v (entry d e es) = has_shape k d && (has_shape v e && entries_have k v es)

-- a shape, with integers for naturals in all its parts if `also` is true
abbrev mutual
  pub wide_shape_if : Bool → PlainShape → PlainShape
  wide_shape_if also truths = truths
  wide_shape_if also integers = integers
  wide_shape_if also naturals = if also then integers else naturals
  wide_shape_if also (constants w from many) = constants w from many
  wide_shape_if also (tuples w names ss) = tuples w names (wide_shapes_if also ss)
  wide_shape_if also (sequences s) = sequences (wide_shape_if also s)
  wide_shape_if also (sets s) = sets (wide_shape_if also s)
  wide_shape_if also (maps k v) = maps (wide_shape_if also k) (wide_shape_if also v)

  pub wide_shapes_if : Bool → PlainShapes → PlainShapes
  wide_shapes_if also no_shapes = no_shapes
  wide_shapes_if also (shape s ss) = shape (wide_shape_if also s) (wide_shapes_if also ss)

-- a shape with integers for naturals in all its parts: what is left of a sort if the sign of a number does not matter
abbrev pub wide_shape : PlainShape → PlainShape
wide_shape s = wide_shape_if true s

-- the position of a name among the names of fields
abbrev pub field_position : List ℕ → List (List ℕ) → Option ℕ
field_position w names = position (pointwise nat_eq w) names

-- the part of a name, of a tuple whose parts have these names
abbrev pub part_named : List (List ℕ) → List ℕ → Data → Option Data
part_named names w d = option_and_then (λ ds. option_and_then (slice_get ds) (field_position w names)) (as_tuple d)

-- the tuple of these parts with another value at a position, if there is a part at it
abbrev pub replaced_part : List Data → Data → ℕ → Option Data
replaced_part ds v i = option_map (λ old. tuple (items_of (slice_set ds i v))) (slice_get ds i)

-- the tuple with another value for the part of a name
abbrev pub with_part : List (List ℕ) → List ℕ → Data → Data → Option Data
with_part names w v d =
    option_and_then (λ ds. option_and_then (replaced_part ds v) (field_position w names)) (as_tuple d)

-- the field of a name, of a value of a tuple type
abbrev pub field_value : PlainShape → List ℕ → Data → Option Data
field_value (tuples type names ss) w d = part_named names w d
field_value _ _ _ = None

-- the tuple in which the field of a name has another value
abbrev pub with_field : PlainShape → List ℕ → Data → Data → Option Data
with_field (tuples type names ss) w v d = with_part names w v d
with_field _ _ _ _ = None

-- a display `{..}` or `[..]` that has a shape, of the values of its parts: those of a tuple have the shapes of its
-- fields, the shapes of those of a sequence or a set are not checked, and that of a map has none
abbrev pub display_value : DisplayForm → PlainShape → List Data → Option Data
display_value Braces (sequences s) ds = Some (sequence_of ds)
display_value Braces (sets s) ds = Some (finite_set_of (set_of ds))
display_value Braces (maps k v) [] = Some (finite_map_of [])
display_value Brackets (tuples type names ss) ds =
    if have_shapes ss (items_of ds) then Some (tuple (items_of ds)) else None
display_value _ _ _ = None

-- whether a display asks for memory
abbrev pub display_takes_memory : DisplayForm → PlainShape → Bool
display_takes_memory Braces (sequences s) = true
display_takes_memory Braces (sets s) = true
display_takes_memory Braces (maps k v) = true
display_takes_memory Brackets (tuples type names ss) = true
display_takes_memory _ _ = false
