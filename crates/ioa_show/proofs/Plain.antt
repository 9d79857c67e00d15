-- Values of a shape in which there is no tuple type are written as without it.
use Rattle.std.proofs.Common.{◌≡◌, ◌∙◌, ℕ, ◌++◌, ◌||◌, Bool, true, false, List, ◌∷◌, refl, ap}
use Rattle.std.specs.Prelude.{codes}
use Rattle.ioa_values.specs.Data.{Data, number, truth, constant, tuple, sequence, finite_set, finite_map}
use Rattle.ioa_values.specs.Data.{Items, no_items, item, Entries, no_entries, entry}
use Rattle.ioa_values.specs.Text.{with_commas}
use Rattle.ioa_operators.specs.Shapes.{PlainShape, truths, integers, naturals, constants, tuples, sequences, sets, maps}
use Rattle.ioa_show.specs.Json.{entry_jsons, has_tuple_type, json, jsons, shaped_entries, shaped_json, shaped_jsons}

-- neither of two
first_not : (a b : Bool) → (a || b) ≡ false → a ≡ false
first_not true b h = h
first_not false b h = refl

second_not : (a b : Bool) → (a || b) ≡ false → b ≡ false
second_not true b h = absurd (cc)
second_not false b h = h

mutual
  pub plain_json : (names : List (List ℕ)) (s : PlainShape) (d : Data) → has_tuple_type s ≡ false → shaped_json names s d ≡ json names d
  plain_json names s (number z) h = refl
  plain_json names s (truth b) h = refl
  plain_json names s (constant k) h = refl
  plain_json names truths (tuple ds) h = refl
  plain_json names integers (tuple ds) h = refl
  plain_json names naturals (tuple ds) h = refl
  plain_json names (constants w from many) (tuple ds) h = refl
  plain_json names (tuples w xs ss) (tuple ds) h = absurd (cc)
  plain_json names (sequences s) (tuple ds) h = refl
  plain_json names (sets s) (tuple ds) h = refl
  plain_json names (maps k v) (tuple ds) h = refl
  plain_json names truths (sequence ds) h = refl
  plain_json names integers (sequence ds) h = refl
  plain_json names naturals (sequence ds) h = refl
  plain_json names (constants w from many) (sequence ds) h = refl
  plain_json names (tuples w xs ss) (sequence ds) h = refl
  plain_json names (sequences s) (sequence ds) h =
      ap (λ (ts : List (List ℕ)). codes "[" ++ with_commas ts ++ codes "]") (plain_jsons names s ds h)
  plain_json names (sets s) (sequence ds) h = refl
  plain_json names (maps k v) (sequence ds) h = refl
  plain_json names truths (finite_set ds) h = refl
  plain_json names integers (finite_set ds) h = refl
  plain_json names naturals (finite_set ds) h = refl
  plain_json names (constants w from many) (finite_set ds) h = refl
  plain_json names (tuples w xs ss) (finite_set ds) h = refl
  plain_json names (sequences s) (finite_set ds) h = refl
  plain_json names (sets s) (finite_set ds) h =
      ap (λ (ts : List (List ℕ)). codes "{\"#set\":[" ++ with_commas ts ++ codes "]}") (plain_jsons names s ds h)
  plain_json names (maps k v) (finite_set ds) h = refl
  plain_json names truths (finite_map es) h = refl
  plain_json names integers (finite_map es) h = refl
  plain_json names naturals (finite_map es) h = refl
  plain_json names (constants w from many) (finite_map es) h = refl
  plain_json names (tuples w xs ss) (finite_map es) h = refl
  plain_json names (sequences s) (finite_map es) h = refl
  plain_json names (sets s) (finite_map es) h = refl
  plain_json names (maps k v) (finite_map es) h =
      ap (λ (ts : List (List ℕ)). codes "{\"#map\":[" ++ with_commas ts ++ codes "]}")
      (plain_entries names k v es (first_not (has_tuple_type k) (has_tuple_type v) h) (second_not (has_tuple_type k) (has_tuple_type v) h))

  plain_jsons : (names : List (List ℕ)) (s : PlainShape) (ds : Items) → has_tuple_type s ≡ false → shaped_jsons names s ds ≡ jsons names ds
  plain_jsons names s no_items h = refl
  plain_jsons names s (item d ds) h =
      ap (λ (t : List ℕ). t ∷ shaped_jsons names s ds) (plain_json names s d h) ∙ ap (λ (ts : List (List ℕ)). json names d ∷ ts) (plain_jsons names s ds h)

  plain_entries : (names : List (List ℕ)) (k v : PlainShape) (es : Entries) → has_tuple_type k ≡ false → has_tuple_type v ≡ false
      → shaped_entries names k v es ≡ entry_jsons names es
  plain_entries names k v no_entries g h = refl
  plain_entries names k v (entry d e es) g h =
      rw (plain_json names k d g, plain_json names v e h, plain_entries names k v es g h) refl
