-- Which shapes a value has, by its kind.
use Rattle.std.proofs.Common.{◌≡◌, ℕ, ◌+◌, ℤ, Bool, true, ◌&&◌, nat_le, nat_lt, List}
use Rattle.ioa_values.specs.Data.{number, truth, constant, tuple, sequence, finite_set, finite_map, Items, Entries}
use Rattle.ioa_operators.specs.Shapes.{PlainShape, PlainShapes, truths, integers, naturals, constants, tuples, sequences, sets, maps, has_shape, have_shapes, all_have, entries_have, wide_shape, wide_shapes_if}

-- what holds of the shapes that a kind of value may have holds of the shape that it has
module _ (P : PlainShape → Type 0) where
  pub number_shapes : (z : ℤ) → P integers → P naturals → (s : PlainShape) → has_shape (wide_shape s) (number z) ≡ true → P s
  number_shapes z p q truths h = absurd cc
  number_shapes z p q integers h = p
  number_shapes z p q naturals h = q
  number_shapes z p q (constants type from many) h = absurd cc
  number_shapes z p q (tuples type fields ss) h = absurd cc
  number_shapes z p q (sequences s) h = absurd cc
  number_shapes z p q (sets s) h = absurd cc
  number_shapes z p q (maps s t) h = absurd cc

  pub truth_shapes : (b : Bool) → P truths → (s : PlainShape) → has_shape (wide_shape s) (truth b) ≡ true → P s
  truth_shapes b p truths h = p
  truth_shapes b p integers h = absurd cc
  truth_shapes b p naturals h = absurd cc
  truth_shapes b p (constants type from many) h = absurd cc
  truth_shapes b p (tuples type fields ss) h = absurd cc
  truth_shapes b p (sequences s) h = absurd cc
  truth_shapes b p (sets s) h = absurd cc
  truth_shapes b p (maps s t) h = absurd cc

  pub constant_shapes : (k : ℕ) → ((type : List ℕ) (from many : ℕ) → (nat_le from k && nat_lt k (from + many)) ≡ true → P (constants type from many)) →
      (s : PlainShape) → has_shape (wide_shape s) (constant k) ≡ true → P s
  constant_shapes k p truths h = absurd cc
  constant_shapes k p integers h = absurd cc
  constant_shapes k p naturals h = absurd cc
  constant_shapes k p (constants type from many) h = p type from many h
  constant_shapes k p (tuples type fields ss) h = absurd cc
  constant_shapes k p (sequences s) h = absurd cc
  constant_shapes k p (sets s) h = absurd cc
  constant_shapes k p (maps s t) h = absurd cc

  pub tuple_shapes : (ds : Items) → ((type : List ℕ) (fields : List (List ℕ)) (ss : PlainShapes) → have_shapes (wide_shapes_if true ss) ds ≡ true → P (tuples type fields ss)) →
      (s : PlainShape) → has_shape (wide_shape s) (tuple ds) ≡ true → P s
  tuple_shapes ds p truths h = absurd cc
  tuple_shapes ds p integers h = absurd cc
  tuple_shapes ds p naturals h = absurd cc
  tuple_shapes ds p (constants type from many) h = absurd cc
  tuple_shapes ds p (tuples type fields ss) h = p type fields ss h
  tuple_shapes ds p (sequences s) h = absurd cc
  tuple_shapes ds p (sets s) h = absurd cc
  tuple_shapes ds p (maps s t) h = absurd cc

  pub sequence_shapes : (ds : Items) → ((s : PlainShape) → all_have (wide_shape s) ds ≡ true → P (sequences s)) → (s : PlainShape) → has_shape (wide_shape s) (sequence ds) ≡ true → P s
  sequence_shapes ds p truths h = absurd cc
  sequence_shapes ds p integers h = absurd cc
  sequence_shapes ds p naturals h = absurd cc
  sequence_shapes ds p (constants type from many) h = absurd cc
  sequence_shapes ds p (tuples type fields ss) h = absurd cc
  sequence_shapes ds p (sequences s) h = p s h
  sequence_shapes ds p (sets s) h = absurd cc
  sequence_shapes ds p (maps s t) h = absurd cc

  pub set_shapes : (ds : Items) → ((s : PlainShape) → all_have (wide_shape s) ds ≡ true → P (sets s)) → (s : PlainShape) → has_shape (wide_shape s) (finite_set ds) ≡ true → P s
  set_shapes ds p truths h = absurd cc
  set_shapes ds p integers h = absurd cc
  set_shapes ds p naturals h = absurd cc
  set_shapes ds p (constants type from many) h = absurd cc
  set_shapes ds p (tuples type fields ss) h = absurd cc
  set_shapes ds p (sequences s) h = absurd cc
  set_shapes ds p (sets s) h = p s h
  set_shapes ds p (maps s t) h = absurd cc

  pub map_shapes : (es : Entries) → ((s t : PlainShape) → entries_have (wide_shape s) (wide_shape t) es ≡ true → P (maps s t)) → (s : PlainShape) → has_shape (wide_shape s) (finite_map es) ≡ true → P s
  map_shapes es p truths h = absurd cc
  map_shapes es p integers h = absurd cc
  map_shapes es p naturals h = absurd cc
  map_shapes es p (constants type from many) h = absurd cc
  map_shapes es p (tuples type fields ss) h = absurd cc
  map_shapes es p (sequences s) h = absurd cc
  map_shapes es p (sets s) h = absurd cc
  map_shapes es p (maps s t) h = p s t h
