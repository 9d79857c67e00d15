-- Values as the informal trace format has them, which is JSON (form): a number is `{"#bigint":"7"}`, a truth value is
-- `true` or `false`, a constant is the string of its name, a tuple is `{"#tup":[a, b]}`, a sequence `[a, b]`, a set
-- `{"#set":[a, b]}`, and a map `{"#map":[[k, v], [l, w]]}`. By its shape a value of a tuple type is the record of its
-- fields, `{"x":a,"y":b}`, at any depth.
use Rattle.std.specs.Prelude.{ℕ, zero, suc, ℤ, ◌+◌, Bool, true, false, ◌||◌, if◌then◌else◌}
use Rattle.std.specs.Prelude.{List, [], ◌∷◌, ◌++◌, codes, get_or}
use Rattle.std.specs.Fmt.{signed_decimal}
use Rattle.ioa_values.specs.Data.{Data, number, truth, constant, tuple, sequence, finite_set, finite_map}
use Rattle.ioa_values.specs.Data.{Items, no_items, item, Entries, no_entries, entry}
use Rattle.ioa_values.specs.Text.{truth_text, with_commas}
use Rattle.ioa_operators.specs.Shapes.{PlainShape, truths, integers, naturals, constants, tuples, sequences, sets}
use Rattle.ioa_operators.specs.Shapes.{maps, PlainShapes, no_shapes, shape}

-- a number
unfoldable pub integer_json : ℤ → List ℕ
integer_json z = codes "{\"#bigint\":\"" ++ (signed_decimal z ++ codes "\"}")

abbrev mutual
  -- a value, with the constants' names as they are declared; a constant without a name is the empty string
  pub json : List (List ℕ) → Data → List ℕ
  json names (number z) = integer_json z
  json names (truth b) = truth_text b
  json names (constant k) = codes "\"" ++ (get_or names k [] ++ codes "\"")
  json names (tuple ds) = codes "{\"#tup\":[" ++ with_commas (jsons names ds) ++ codes "]}"
  json names (sequence ds) = codes "[" ++ with_commas (jsons names ds) ++ codes "]"
  json names (finite_set ds) = codes "{\"#set\":[" ++ with_commas (jsons names ds) ++ codes "]}"
  json names (finite_map es) = codes "{\"#map\":[" ++ with_commas (entry_jsons names es) ++ codes "]}"

  -- items
  pub jsons : List (List ℕ) → Items → List (List ℕ)
  jsons names no_items = []
  jsons names (item d more) = json names d ∷ jsons names more

  -- entries, each a list of a key and its value
  pub entry_jsons : List (List ℕ) → Entries → List (List ℕ)
  entry_jsons names no_entries = []
  entry_jsons names (entry k v more) =
      (codes "[" ++ (json names k ++ (codes ", " ++ (json names v ++ codes "]")))) ∷ entry_jsons names more

-- an entry
abbrev pub entry_json : List (List ℕ) → Data × Data → List ℕ
entry_json names e = codes "[" ++ (json names e.0 ++ (codes ", " ++ (json names e.1 ++ codes "]")))

-- whether there are as many values, names and shapes
abbrev pub as_many : Items → List (List ℕ) → PlainShapes → Bool
as_many no_items [] no_shapes = true
as_many no_items [] (shape s ss) = false
as_many no_items (x ∷ xs) ss = false
as_many (item d ds) [] ss = false
as_many (item d ds) (x ∷ xs) no_shapes = false
as_many (item d ds) (x ∷ xs) (shape s ss) = as_many ds xs ss

-- what stands in front of the name of the field at a position
abbrev pub field_start : ℕ → List ℕ
field_start zero = codes "\""
field_start (suc k) = codes ",\""

-- the name of the field at a position, as far as its value
unfoldable pub field_key : ℕ → List ℕ → List ℕ
field_key k x = field_start k ++ (x ++ codes "\":")

abbrev mutual
  -- a value by its shape; by another shape than its own it is as above
  pub shaped_json : List (List ℕ) → PlainShape → Data → List ℕ
  shaped_json names s (number z) = json names (number z)
  shaped_json names s (truth b) = json names (truth b)
  shaped_json names s (constant k) = json names (constant k)
  shaped_json names (tuples type xs ss) (tuple ds) =
      if as_many ds xs ss then codes "{" ++ (fields_json names 0 ds xs ss ++ codes "}") else json names (tuple ds)
  shaped_json names s (tuple ds) = json names (tuple ds)
  shaped_json names (sequences s) (sequence ds) = codes "[" ++ with_commas (shaped_jsons names s ds) ++ codes "]"
  shaped_json names s (sequence ds) = json names (sequence ds)
  shaped_json names (sets s) (finite_set ds) =
      codes "{\"#set\":[" ++ with_commas (shaped_jsons names s ds) ++ codes "]}"
  shaped_json names s (finite_set ds) = json names (finite_set ds)
  shaped_json names (maps k v) (finite_map es) =
      codes "{\"#map\":[" ++ with_commas (shaped_entries names k v es) ++ codes "]}"
  shaped_json names s (finite_map es) = json names (finite_map es)

  -- the fields of a tuple type from a position on, with these values, names and shapes
  pub fields_json : List (List ℕ) → ℕ → Items → List (List ℕ) → PlainShapes → List ℕ
  fields_json names k no_items xs ss = []
  fields_json names k (item d ds) [] ss = []
  fields_json names k (item d ds) (x ∷ xs) no_shapes = []
  fields_json names k (item d ds) (x ∷ xs) (shape s ss) =
      field_key k x ++ (shaped_json names s d ++ fields_json names (k + 1) ds xs ss)

  -- items of a shape
  pub shaped_jsons : List (List ℕ) → PlainShape → Items → List (List ℕ)
  shaped_jsons names s no_items = []
  shaped_jsons names s (item d more) = shaped_json names s d ∷ shaped_jsons names s more

  -- entries of two shapes, each a list of a key and its value
  pub shaped_entries : List (List ℕ) → PlainShape → PlainShape → Entries → List (List ℕ)
  shaped_entries names k v no_entries = []
  shaped_entries names k v (entry d e more) =
      (codes "[" ++ (shaped_json names k d ++ (codes ", " ++ (shaped_json names v e ++ codes "]"))))
      ∷ shaped_entries names k v more

-- an entry
abbrev pub shaped_entry : List (List ℕ) → PlainShape → PlainShape → Data × Data → List ℕ
shaped_entry names k v e =
    codes "[" ++ (shaped_json names k e.0 ++ (codes ", " ++ (shaped_json names v e.1 ++ codes "]")))

-- whether a shape is that of a tuple type, or has one in its parts
abbrev pub has_tuple_type : PlainShape → Bool
has_tuple_type truths = false
has_tuple_type integers = false
has_tuple_type naturals = false
has_tuple_type (constants type from many) = false
has_tuple_type (tuples type xs ss) = true
has_tuple_type (sequences s) = has_tuple_type s
has_tuple_type (sets s) = has_tuple_type s
has_tuple_type (maps k v) = has_tuple_type k || has_tuple_type v
