-- Shapes whose values an effect may choose (profile): truth values, numbers, and the constants of an enumeration.
use Rattle.std.specs.Prelude.{Bool, true, false}
use Rattle.ioa_operators.specs.Shapes.{PlainShape, truths, integers, naturals, constants, tuples, sequences, sets, maps}

-- whether a shape is one of these
abbrev pub is_simple : PlainShape → Bool
is_simple truths = true
is_simple integers = true
is_simple naturals = true
is_simple (constants type from many) = true
is_simple (tuples type names fields) = false
is_simple (sequences s) = false
is_simple (sets s) = false
is_simple (maps k v) = false

-- a shape is one of these
abbrev pub IsSimple : PlainShape → Type 0
IsSimple truths = Unit {0}
IsSimple integers = Unit {0}
IsSimple naturals = Unit {0}
IsSimple (constants type from many) = Unit {0}
IsSimple (tuples type names fields) = ⊥
IsSimple (sequences s) = ⊥
IsSimple (sets s) = ⊥
IsSimple (maps k v) = ⊥
