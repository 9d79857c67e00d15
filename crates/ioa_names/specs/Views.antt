-- Names in view with their shapes and slots (profile), and how the code keeps them (form).
use Rattle.std.specs.Prelude.{◌≡◌, ℕ, ◌+◌, ◌<◌, ◌^◌, if◌then◌else◌, List, [], ◌∷◌, Option, Some, None}
use Rattle.std.specs.Prelude.{length, map, slice_get}
use Rattle.std.specs.Option.{option_map}
use Rattle.ioa_operators.specs.Shapes.{PlainShape}
use Rattle.ioa_terms.specs.declared.name.Name.{Name}
use Rattle.ioa_terms.specs.declared.name.Name.TheVariants.{Word}
use Rattle.ioa_terms.specs.Bindings.{same_name}
use Rattle.ioa_terms.specs.Sorted.{NameShapes, shape_in_terms}
use Rattle.ioa_names.specs.NameTables.{declared_names, words}

-- a slot with the shape that is at it
abbrev pub at_slot : List PlainShape → ℕ → Option (ℕ × PlainShape)
at_slot shapes slot = option_map (λ s. (slot, s)) (slice_get shapes slot)

-- the slot of a name behind a number of other names, with its shape
abbrev pub behind : ℕ → Option (ℕ × PlainShape) → Option (ℕ × PlainShape)
behind offset found = option_map (λ p. (offset + p.0, p.1)) found

-- the second and the third of three lists of names begin at these slots, and a machine can count all names
abbrev pub AreOffsets : NameShapes → NameShapes → NameShapes → ℕ → ℕ → Type 0
AreOffsets outer own constants own_offset constants_offset =
    (own_offset ≡ length outer) × (constants_offset ≡ length outer + length own)
    × (length outer + length own + length constants < 2 ^ 64)

-- each name is a word
abbrev pub AreWords : NameShapes → Type 0
AreWords names = declared_names names ≡ map Word (words names)

-- the slot of a name, and its declared shape
abbrev pub declared_at : Name → NameShapes → Option (ℕ × PlainShape)
declared_at x [] = None
declared_at x (n ∷ names) =
    if same_name x n.0 then Some (0, n.1) else option_map (λ p. (p.0 + 1, p.1)) (declared_at x names)

-- the slot of a name, and its shape in a term
abbrev pub named : Name → NameShapes → Option (ℕ × PlainShape)
named x names = option_map (λ p. (p.0, shape_in_terms p.1)) (declared_at x names)
