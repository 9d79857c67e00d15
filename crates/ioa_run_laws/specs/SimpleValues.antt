-- The values that effects choose (profile): none is a sequence, a set, a map or a tuple.
use Rattle.std.specs.Prelude.{◌<◌, ℕ, List}
use Rattle.std.specs.List.{AllByRecursion}
use Rattle.ioa_values.specs.Data.{Data, number, truth, constant, tuple, sequence, finite_set, finite_map}

-- a number, a truth value, or a constant of a text of so many constants
abbrev pub IsSimpleValue : ℕ → Data → Type 0
IsSimpleValue many (number z) = Unit {0}
IsSimpleValue many (truth b) = Unit {0}
IsSimpleValue many (constant k) = k < many
IsSimpleValue many (tuple ds) = ⊥
IsSimpleValue many (sequence ds) = ⊥
IsSimpleValue many (finite_set ds) = ⊥
IsSimpleValue many (finite_map es) = ⊥

-- the same of each value
abbrev pub AreSimpleValues : ℕ → List Data → Type 0
AreSimpleValues many vs = AllByRecursion (IsSimpleValue many) vs
