-- A value has a shape if and only if it has it but for signs, and has no negative number for a natural.
use Rattle.std.proofs.Common.{◌≡◌, ℕ, ◌+◌, ℤ, pos, negsuc, Bool, true, false, refl, sym, ap, ◌∙◌, arith}
use Rattle.std.specs.Prelude.{nat_le, nat_lt, int_le, int_lt, not, ◌&&◌, ◌||◌, map}
use Rattle.std.proofs.lemmas.Bool.{and_parts}
use Rattle.std.proofs.lemmas.Bool.Decides.{nat_tests}
use Rattle.ioa_values.specs.Data.{Data, Items, Entries, number, truth, constant, tuple, sequence, finite_set, finite_map, no_items, item, no_entries, entry}
use Rattle.ioa_operators.specs.Shapes.{PlainShape, PlainShapes, truths, integers, naturals, constants, tuples, sequences, sets, maps, no_shapes, shape, shapes_of, has_shape, have_shapes, all_have, entries_have, wide_shape_if, wide_shapes_if}
use Rattle.ioa_terms.specs.Sorted.{shape_in_terms, listed_shapes}
use Rattle.ioa_terms.specs.Undefined.{has_negative, have_negative, any_negative, entries_negative}

zero_or_more : (n : ℕ) → nat_le 0 n ≡ not (nat_lt n 0)
zero_or_more n = grind (arith, nat_tests)

not_negative : (z : ℤ) → int_le (pos 0) z ≡ not (int_lt z (pos 0))
not_negative (pos n) = zero_or_more n
not_negative (negsuc n) = refl

parted : (w n x m : Bool) → ((w && not n) && (x && not m)) ≡ ((w && x) && not (n || m))
parted false n x m = refl
parted true true false m = refl
parted true true true m = refl
parted true false x m = refl

both : (a w n b x m : Bool) → a ≡ (w && not n) → b ≡ (x && not m) → (a && b) ≡ ((w && x) && not (n || m))
both a w n b x m p q = rw (p, q) (parted w n x m)

unsigned : (b : Bool) → b ≡ (b && true)
unsigned true = refl
unsigned false = refl

mutual
  pub has_but_for_signs : (s : PlainShape) (v : Data) → has_shape s v ≡ (has_shape (wide_shape_if true s) v && not (has_negative s v))
  has_but_for_signs truths (truth b) = refl
  has_but_for_signs truths _ = refl
  has_but_for_signs integers (number z) = refl
  has_but_for_signs integers _ = refl
  has_but_for_signs naturals (number z) = not_negative z
  has_but_for_signs naturals _ = refl
  has_but_for_signs (constants type from many) (constant k) = unsigned (nat_le from k && nat_lt k (from + many))
  has_but_for_signs (constants type from many) _ = refl
  has_but_for_signs (tuples type names ss) (tuple ds) = have_but_for_signs ss ds
  has_but_for_signs (tuples type names ss) _ = refl
  has_but_for_signs (sequences s) (sequence ds) = all_but_for_signs s ds
  has_but_for_signs (sequences s) _ = refl
  has_but_for_signs (sets s) (finite_set ds) = all_but_for_signs s ds
  has_but_for_signs (sets s) _ = refl
  has_but_for_signs (maps k v) (finite_map es) = entries_but_for_signs k v es
  has_but_for_signs (maps k v) _ = refl

  have_but_for_signs : (ss : PlainShapes) (ds : Items) → have_shapes ss ds ≡ (have_shapes (wide_shapes_if true ss) ds && not (have_negative ss ds))
  have_but_for_signs no_shapes no_items = refl
  have_but_for_signs no_shapes (item d ds) = refl
  have_but_for_signs (shape s ss) no_items = refl
  have_but_for_signs (shape s ss) (item d ds) =
      both (has_shape s d) (has_shape (wide_shape_if true s) d) (has_negative s d) (have_shapes ss ds) (have_shapes (wide_shapes_if true ss) ds) (have_negative ss ds)
      (has_but_for_signs s d) (have_but_for_signs ss ds)

  all_but_for_signs : (s : PlainShape) (ds : Items) → all_have s ds ≡ (all_have (wide_shape_if true s) ds && not (any_negative s ds))
  all_but_for_signs s no_items = refl
  all_but_for_signs s (item d ds) =
      both (has_shape s d) (has_shape (wide_shape_if true s) d) (has_negative s d) (all_have s ds) (all_have (wide_shape_if true s) ds) (any_negative s ds)
      (has_but_for_signs s d) (all_but_for_signs s ds)

  entries_but_for_signs : (k v : PlainShape) (es : Entries) → entries_have k v es ≡ (entries_have (wide_shape_if true k) (wide_shape_if true v) es && not (entries_negative k v es))
  entries_but_for_signs k v no_entries = refl
  entries_but_for_signs k v (entry d e es) =
      both (has_shape k d) (has_shape (wide_shape_if true k) d) (has_negative k d) (has_shape v e && entries_have k v es)
      (has_shape (wide_shape_if true v) e && entries_have (wide_shape_if true k) (wide_shape_if true v) es) (has_negative v e || entries_negative k v es)
      (has_but_for_signs k d)
      (both (has_shape v e) (has_shape (wide_shape_if true v) e) (has_negative v e) (entries_have k v es) (entries_have (wide_shape_if true k) (wide_shape_if true v) es) (entries_negative k v es)
      (has_but_for_signs v e) (entries_but_for_signs k v es))

-- with integers for naturals, signs do not matter
shape_in_terms_wide : (s : PlainShape) → wide_shape_if true (shape_in_terms s) ≡ wide_shape_if true s
shape_in_terms_wide truths = refl
shape_in_terms_wide integers = refl
shape_in_terms_wide naturals = refl
shape_in_terms_wide (constants type from many) = refl
shape_in_terms_wide (tuples type names fields) = refl
shape_in_terms_wide (sequences s) = ap sequences (shape_in_terms_wide s)
shape_in_terms_wide (sets s) = ap sets (shape_in_terms_wide s)
shape_in_terms_wide (maps k v) = rw (shape_in_terms_wide k, shape_in_terms_wide v) refl

shape_in_terms_but_for_signs : (s : PlainShape) (v : Data) → has_shape (shape_in_terms s) v ≡ true → has_shape (wide_shape_if true s) v ≡ true
shape_in_terms_but_for_signs s v h =
    let wide : (has_shape (wide_shape_if true (shape_in_terms s)) v && not (has_negative (shape_in_terms s) v)) ≡ true = sym (has_but_for_signs (shape_in_terms s) v) ∙ h in
    ap (λ (t : PlainShape). has_shape t v) (sym (shape_in_terms_wide s)) ∙ (and_parts (has_shape (wide_shape_if true (shape_in_terms s)) v) (not (has_negative (shape_in_terms s) v)) wide).0

each_but_for_signs : (ss : PlainShapes) (ds : Items) → have_shapes (shapes_of (map shape_in_terms (listed_shapes ss))) ds ≡ true → have_shapes (wide_shapes_if true ss) ds ≡ true
each_but_for_signs no_shapes no_items h = refl
each_but_for_signs no_shapes (item d ds) h = absurd (cc)
each_but_for_signs (shape s ss) no_items h = absurd (cc)
each_but_for_signs (shape s ss) (item d ds) h =
    let p = and_parts (has_shape (shape_in_terms s) d) (have_shapes (shapes_of (map shape_in_terms (listed_shapes ss))) ds) h in
    rw (shape_in_terms_but_for_signs s d p.0) (each_but_for_signs ss ds p.1)

-- values that have the shapes of a tuple's fields but for signs have them if none has a negative number for a natural
pub fields_but_for_signs : (ss : PlainShapes) (ds : Items) → have_shapes (shapes_of (map shape_in_terms (listed_shapes ss))) ds ≡ true → have_shapes ss ds ≡ not (have_negative ss ds)
fields_but_for_signs ss ds h = have_but_for_signs ss ds ∙ ap (λ b. b && not (have_negative ss ds)) (each_but_for_signs ss ds h)
