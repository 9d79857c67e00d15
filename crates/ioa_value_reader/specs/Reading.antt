-- How the reader goes through the tokens of a value (profile): by the shape that it has to have. A negative number is
-- read where a natural is asked for.
use Rattle.std.specs.Prelude.{ℕ, pos, ◌+◌, true, false, ◌&&◌, int_lt, nat_eq, nat_le, nat_lt, length}
use Rattle.std.specs.Prelude.{List, [], ◌∷◌, ◌++◌, Option, Some, None}
use Rattle.ioa_tokens.specs.declared.token.Token.{Token}
use Rattle.ioa_tokens.specs.declared.mark.Mark.TheVariants as mark
use Rattle.ioa_cursor.specs.Reading.{Reader, ◌>>=◌, choose, skip, expect, word, several_more}
use Rattle.ioa_cursor.specs.Reading as cursor
use Rattle.ioa_values.specs.Collections.{keys_of}
use Rattle.ioa_values.specs.Data.{Data, number, truth, constant, tuple, sequence, finite_set, finite_map}
use Rattle.ioa_values.specs.Data.{items_of, entries_of}
use Rattle.ioa_operators.specs.Shapes.{PlainShape, PlainShapes, truths, integers, naturals, constants, tuples}
use Rattle.ioa_operators.specs.Shapes.{sequences, sets, maps, no_shapes, shape}
use Rattle.ioa_value_reader.specs.Ascent.{ascends}
use Rattle.ioa_value_reader.specs.Grammar.{constant_named, minus_amount}

-- Number or - Number
unfoldable pub read_number : Reader Data
read_number xs =
    choose (skip mark.Minus xs).0
    (cursor.number (skip mark.Minus xs).1 >>= λ n. Some (number (minus_amount n.0), n.1))
    (cursor.number (skip mark.Minus xs).1 >>= λ n. choose (int_lt n.0 (pos 0)) None (Some (number n.0, n.1)))

-- true or false
unfoldable pub read_truth : Reader Data
read_truth xs =
    choose (skip mark.True xs).0
    (Some (truth true, (skip mark.True xs).1))
    (expect mark.False (skip mark.True xs).1 >>= λ f. Some (truth false, f.1))

-- the constant of a name, if it is one of those from an index on
unfoldable pub constant_among : List (List ℕ) → ℕ → ℕ → List ℕ → Option ℕ
constant_among names from many w =
    constant_named names w >>= λ k. choose (nat_le from k && nat_lt k (from + many)) (Some k) None

-- the name of one of the constants from an index on
unfoldable pub read_constant : List (List ℕ) → ℕ → ℕ → Reader Data
read_constant names from many xs =
    word xs >>= λ w. constant_among names from many w.0 >>= λ k. Some (constant k, w.1)

-- [X {, X}] between braces
unfoldable pub in_braces : {A : Type 0} → Reader A → Reader (List A)
in_braces read xs =
    expect mark.OpenBrace xs >>= λ o.
    choose (skip mark.CloseBrace o.1).0
    (Some ([], (skip mark.CloseBrace o.1).1))
    (several_more (skip mark.Comma) read [] (skip mark.CloseBrace o.1).1 >>= λ r.
    expect mark.CloseBrace r.1 >>= λ c. Some (r.0, c.1))

-- a key, -> and its value
unfoldable pub read_entry : Reader Data → Reader Data → Reader (Data × Data)
read_entry read_key read_item xs =
    read_key xs >>= λ k. expect mark.Arrow k.1 >>= λ a. read_item a.1 >>= λ v. Some ((k.0, v.0), v.1)

-- the comma in front of a part behind those that are done
unfoldable pub between : List Data → Reader (Unit {0})
between [] xs = Some (tt, xs)
between (d ∷ ds) xs = expect mark.Comma xs

-- the values that were read as a sequence, a set, a map or a tuple, if they can be one
abbrev pub as_sequence : List Data × List Token → Option (Data × List Token)
as_sequence r = Some (sequence (items_of r.0), r.1)

abbrev pub as_set : List Data × List Token → Option (Data × List Token)
as_set r = choose (ascends r.0) (Some (finite_set (items_of r.0), r.1)) None

abbrev pub as_map : List (Data × Data) × List Token → Option (Data × List Token)
as_map r = choose (ascends (keys_of r.0)) (Some (finite_map (entries_of r.0), r.1)) None

abbrev pub as_tuple : List Data × List Token → Option (Data × List Token)
as_tuple r = choose (nat_eq (length r.0) 0) None (Some (tuple (items_of r.0), r.1))

unfoldable mutual
  -- a value of a shape
  pub read_value : List (List ℕ) → PlainShape → Reader Data
  read_value names truths xs = read_truth xs
  read_value names integers xs = read_number xs
  read_value names naturals xs = read_number xs
  read_value names (constants type from many) xs = read_constant names from many xs
  read_value names (tuples type fields ss) xs =
      expect mark.OpenSquare xs >>= λ o. read_parts names ss [] o.1 >>= λ r.
      expect mark.CloseSquare r.1 >>= λ c. as_tuple (r.0, c.1)
  read_value names (sequences s) xs = in_braces (read_value names s) xs >>= as_sequence
  read_value names (sets s) xs = in_braces (read_value names s) xs >>= as_set
  read_value names (maps k v) xs = in_braces (read_entry (read_value names k) (read_value names v)) xs >>= as_map

  -- a value of each of these shapes, with commas between, behind the parts that are done
  pub read_parts : List (List ℕ) → PlainShapes → List Data → Reader (List Data)
  read_parts names no_shapes done xs = Some (done, xs)
  read_parts names (shape s ss) done xs =
      between done xs >>= λ b. read_value names s b.1 >>= λ r. read_parts names ss (done ++ r.0 ∷ []) r.1
