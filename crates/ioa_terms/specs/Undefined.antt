-- The closed list of what has no value though its parts have the shapes that it takes (profile).
use Rattle.std.specs.Prelude.{pos, int_lt, Bool, true, false, not, ◌||◌, List, [], ◌∷◌}
use Rattle.std.specs.Option.{is_some}
use Rattle.ioa_values.specs.Data.{Data, number, tuple, sequence, finite_set, finite_map}
use Rattle.ioa_values.specs.Data.{Items, no_items, item, Entries, no_entries, entry, items_of, pairs_of}
use Rattle.ioa_values.specs.Collections.{value_at}
use Rattle.ioa_operators.specs.Shapes.{PlainShape, PlainShapes, naturals, tuples, sequences, sets, maps, shape}
use Rattle.ioa_operators.specs.declared.operator.BinaryOperator.{BinaryOperator}
use Rattle.ioa_operators.specs.declared.operator.BinaryOperator.TheVariants.{At}
use Rattle.ioa_operators.specs.declared.operator.Function.{Function}
use Rattle.ioa_operators.specs.declared.operator.Function.TheVariants.{Head, Tail, Quotient, Remainder}
use Rattle.ioa_operators.specs.declared.shape.DisplayForm.{DisplayForm}
use Rattle.ioa_operators.specs.declared.shape.DisplayForm.TheVariants.{Brackets}

-- `m[k]` of a map that has no value at the key
abbrev pub is_missing_key : BinaryOperator → Data → Data → Bool
is_missing_key At (finite_map es) k = not (is_some (value_at k (pairs_of es)))
is_missing_key _ _ _ = false

-- `head` and `tail` of the empty sequence
abbrev pub is_empty_end : Function → List Data → Bool
is_empty_end Head (sequence no_items ∷ []) = true
is_empty_end Tail (sequence no_items ∷ []) = true
is_empty_end _ _ = false

-- `div` and `mod` by a number below 1
abbrev pub is_low_divisor : Function → List Data → Bool
is_low_divisor Quotient (x ∷ number n ∷ []) = int_lt n (pos 1)
is_low_divisor Remainder (x ∷ number n ∷ []) = int_lt n (pos 1)
is_low_divisor _ _ = false

-- whether the value has a negative number, at any depth, where the shape has a natural
abbrev mutual
  pub has_negative : PlainShape → Data → Bool
  has_negative naturals (number z) = int_lt z (pos 0)
  has_negative (tuples type names fields) (tuple ds) = have_negative fields ds
  has_negative (sequences s) (sequence ds) = any_negative s ds
  has_negative (sets s) (finite_set ds) = any_negative s ds
  has_negative (maps k v) (finite_map es) = entries_negative k v es
  has_negative _ _ = false

  -- in values of shapes, one by one
  pub have_negative : PlainShapes → Items → Bool
  have_negative (shape s ss) (item d ds) = has_negative s d || have_negative ss ds
  have_negative _ _ = false

  -- in values of one shape
  pub any_negative : PlainShape → Items → Bool
  any_negative s no_items = false
  any_negative s (item d ds) = has_negative s d || any_negative s ds

  -- in keys of a shape and values of another
  pub entries_negative : PlainShape → PlainShape → Entries → Bool
  entries_negative k v no_entries = false
  entries_negative k v (entry d e es) = has_negative k d || (has_negative v e || entries_negative k v es)

-- a tuple display with a negative number for a natural
abbrev pub is_negative_tuple : DisplayForm → PlainShape → List Data → Bool
is_negative_tuple Brackets (tuples type names fields) vs = have_negative fields (items_of vs)
is_negative_tuple _ _ _ = false
