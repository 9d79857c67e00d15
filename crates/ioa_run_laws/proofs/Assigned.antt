-- What an assignment or a choice gives its variable has the variable's shape, but for negative numbers.
use Rattle.std.proofs.Common.{◌≡◌, ℕ, zero, suc, true, not, ◌&&◌, List, [], ◌∷◌, Option, Some, None, refl, sym, ap, subst, ◌∙◌, slice_get, slice_set}
use Rattle.std.specs.Option.{IfSome, option_and_then, option_map}
use Rattle.std.proofs.lemmas.Bool.{and_parts}
use Rattle.ioa_values.specs.Data.{Data, Items, Entries, tuple, sequence, finite_set, finite_map, no_items, item, no_entries, entry, list_of, items_of}
use Rattle.ioa_operators.specs.Shapes.{PlainShape, PlainShapes, truths, integers, naturals, constants, tuples, sequences, sets, maps, no_shapes, shape, has_shape, have_shapes, all_have, entries_have, wide_shape, wide_shapes_if, field_position, replaced_part, with_field}
use Rattle.ioa_operators.specs.declared.shape.Shape.{Shape}
use Rattle.ioa_operators.proofs.Holding.{and_then_holds, map_holds_any}
use Rattle.ioa_terms.specs.declared.callee.Callee.{Callee}
use Rattle.ioa_terms.specs.declared.name.Name.TheVariants.{Word}
use Rattle.ioa_terms.specs.Bindings.{Bindings, lookup}
use Rattle.ioa_terms.specs.Meaning.{value}
use Rattle.ioa_terms.specs.Performance.{target_shape, assignment_value, updated_map}
use Rattle.ioa_terms.specs.PlainTerm.{PlainTerm, PlainTarget, variable, at_key, at_field}
use Rattle.ioa_terms.specs.Sorted.{NameShapes, HasShape, IsShaped, shape_named, shape_in_terms, field_shape, listed_shapes, updated}
use Rattle.ioa_terms.specs.Undefined.{has_negative}
use Rattle.ioa_terms.proofs.Negatives.{has_but_for_signs}
use Rattle.ioa_terms.proofs.ShapesKept.{Has, function_has, shape_in_terms_has}
use Rattle.ioa_terms.proofs.Sound.{value_has}
use Rattle.ioa_sorts.specs.SortedStatements.{HoldsShape}
use Rattle.ioa_run_laws.specs.WellSorted.{given_by_choice}

-- a value that has a shape has it but for signs
pub widened : (s : PlainShape) (v : Data) → Has s v → Has (wide_shape s) v
widened s v h = (and_parts (has_shape (wide_shape s) v) (not (has_negative s v)) (sym (has_but_for_signs s v) ∙ h)).0

-- and so does one that has it with integers for naturals
mutual
  terms_widened : (s : PlainShape) (v : Data) → has_shape (shape_in_terms s) v ≡ true → has_shape (wide_shape s) v ≡ true
  terms_widened truths v h = h
  terms_widened integers v h = h
  terms_widened naturals v h = h
  terms_widened (constants type from many) v h = h
  terms_widened (tuples type names fields) v h = widened (tuples type names fields) v h
  terms_widened (sequences s) (sequence ds) h = items_widened s ds h
  terms_widened (sequences s) _ h = absurd (cc)
  terms_widened (sets s) (finite_set ds) h = items_widened s ds h
  terms_widened (sets s) _ h = absurd (cc)
  terms_widened (maps x y) (finite_map es) h = entries_widened x y es h
  terms_widened (maps x y) _ h = absurd (cc)

  items_widened : (s : PlainShape) (ds : Items) → all_have (shape_in_terms s) ds ≡ true → all_have (wide_shape s) ds ≡ true
  items_widened s no_items h = refl
  items_widened s (item d ds) h =
      let p = and_parts (has_shape (shape_in_terms s) d) (all_have (shape_in_terms s) ds) h in
      rw (terms_widened s d p.0) (items_widened s ds p.1)

  entries_widened : (x y : PlainShape) (es : Entries) → entries_have (shape_in_terms x) (shape_in_terms y) es ≡ true → entries_have (wide_shape x) (wide_shape y) es ≡ true
  entries_widened x y no_entries h = refl
  entries_widened x y (entry k v es) h =
      let p = and_parts (has_shape (shape_in_terms x) k) (has_shape (shape_in_terms y) v && entries_have (shape_in_terms x) (shape_in_terms y) es) h in
      let q = and_parts (has_shape (shape_in_terms y) v) (entries_have (shape_in_terms x) (shape_in_terms y) es) p.1 in
      rw (terms_widened x k p.0, terms_widened y v q.0) (entries_widened x y es q.1)

-- what holds of each value that there is
pub if_any : (P : Data → Type 0) (o : Option Data) → ((v : Data) → o ≡ Some v → P v) → IfSome o P
if_any P None g = tt
if_any P (Some v) g = g v refl

if_mapped : (P Q : Data → Type 0) (o : Option Data) → IfSome o P → ((v : Data) → P v → Q v) → IfSome o Q
if_mapped P Q None h g = tt
if_mapped P Q (Some v) h g = g v h

-- a field
items_again : (ds : Items) → items_of (list_of ds) ≡ ds
items_again no_items = refl
items_again (item d ds) = ap (λ (es : Items). item d es) (items_again ds)

part_replaced : (ss : PlainShapes) (ds : Items) (i : ℕ) (s : PlainShape) (v : Data) → option_map shape_in_terms (slice_get (listed_shapes ss) i) ≡ Some s → Has s v → have_shapes (wide_shapes_if true ss) ds ≡ true →
    have_shapes (wide_shapes_if true ss) (items_of (slice_set (list_of ds) i v)) ≡ true
part_replaced no_shapes ds i s v e h k = absurd (cc)
part_replaced (shape x ss) no_items i s v e h k = absurd (cc)
part_replaced (shape x ss) (item d ds) zero s v e h k =
    let own : shape_in_terms x ≡ s = cc in
    let p = and_parts (has_shape (wide_shape x) d) (have_shapes (wide_shapes_if true ss) ds) k in
    rw (terms_widened x v (subst (λ (z : PlainShape). Has z v) (sym own) h)) (subst (λ (es : Items). have_shapes (wide_shapes_if true ss) es ≡ true) (sym (items_again ds)) p.1)
part_replaced (shape x ss) (item d ds) (suc i) s v e h k =
    let p = and_parts (has_shape (wide_shape x) d) (have_shapes (wide_shapes_if true ss) ds) k in
    rw p.0 (part_replaced ss ds i s v e h p.1)

named_replaced : (type : List ℕ) (names : List (List ℕ)) (ss : PlainShapes) (ds : Items) (o : Option ℕ) (s : PlainShape) (v : Data) → option_map shape_in_terms (option_and_then (slice_get (listed_shapes ss)) o) ≡ Some s → Has s v → have_shapes (wide_shapes_if true ss) ds ≡ true →
    IfSome (option_and_then (replaced_part (list_of ds) v) o) (Has (wide_shape (tuples type names ss)))
named_replaced type names ss ds None s v e h k = tt
named_replaced type names ss ds (Some i) s v e h k =
    map_holds_any (Has (wide_shape (tuples type names ss))) (λ old. tuple (items_of (slice_set (list_of ds) i v))) (slice_get (list_of ds) i) (λ old. part_replaced ss ds i s v e h k)

field_replaced : (d : PlainShape) (w : List ℕ) (s : PlainShape) (v old : Data) → option_map shape_in_terms (field_shape w d) ≡ Some s → Has s v → Has d old → IfSome (with_field d w v old) (Has (wide_shape d))
field_replaced (tuples type names ss) w s v (tuple ds) e h k = named_replaced type names ss ds (field_position w names) s v e h (widened (tuples type names ss) (tuple ds) k)
field_replaced d w s v old e h k = tt

module _ (names : NameShapes) (e : Bindings) (g : IsShaped names e) where
  -- the value of a term, and of a variable
  term_has : (t : PlainTerm ℕ Callee Shape) (s : PlainShape) → HasShape names t s → IfSome (value t e) (Has s)
  term_has t s h = if_any (Has s) (value t e) (value_has names e g t s h)

  variable_has : (x : List ℕ) (d : PlainShape) → shape_named (Word x) names ≡ Some d → IfSome (lookup (Word x) e) (Has d)
  variable_has x d h = if_any (Has d) (lookup (Word x) e) (λ v k. g (Word x) d v h k)

  map_updated : (d keys s : PlainShape) (i v m : Data) → shape_in_terms d ≡ maps keys s → Has keys i → Has s v → Has d m → IfSome (updated_map i v m) (Has (wide_shape d))
  map_updated d keys s i v m same h k l =
      if_mapped (Has (maps keys s)) (Has (wide_shape d)) (updated_map i v m)
      (function_has (updated {k = keys} {v = s}) (m ∷ i ∷ v ∷ []) (subst (λ (z : PlainShape). Has z m) same (shape_in_terms_has d m l), (h, (k, tt))))
      (λ n p. terms_widened d n (subst (λ (z : PlainShape). Has z n) (sym same) p))

  -- what a choice gives a variable
  pub given_has : (variables : NameShapes) → ((x : List ℕ) (d : PlainShape) → shape_named (Word x) variables ≡ Some d → shape_named (Word x) names ≡ Some d) → (p : PlainTarget ℕ Callee Shape) (s : PlainShape) (v : Data) →
      HoldsShape variables names p s → Has s v → IfSome (given_by_choice p v e) (Has (wide_shape (target_shape p)))
  given_has variables declared (variable x at d) s v h k = terms_widened d v (subst (λ (z : PlainShape). Has z v) h.1 k)
  given_has variables declared (at_key x at d u) s v h k =
      and_then_holds (Has h.0) (Has (wide_shape d)) (λ i. option_and_then (updated_map i v) (lookup (Word x) e)) (value u e) (term_has u h.0 h.3)
      (λ i l. and_then_holds (Has d) (Has (wide_shape d)) (updated_map i v) (lookup (Word x) e) (variable_has x d (declared x d h.1))
      (λ old n. map_updated d h.0 s i v old h.2 l k n))
  given_has variables declared (at_field x at d w) s v h k =
      and_then_holds (Has d) (Has (wide_shape d)) (with_field d w v) (lookup (Word x) e) (variable_has x d (declared x d h.0)) (λ old n. field_replaced d w s v old h.1 k n)

  -- and what an assignment does
  pub assigned_has : (variables : NameShapes) → ((x : List ℕ) (d : PlainShape) → shape_named (Word x) variables ≡ Some d → shape_named (Word x) names ≡ Some d) → (p : PlainTarget ℕ Callee Shape) (t : PlainTerm ℕ Callee Shape) (s : PlainShape) →
      HoldsShape variables names p s → HasShape names t s → IfSome (assignment_value p t e) (Has (wide_shape (target_shape p)))
  assigned_has variables declared (variable x at d) t s h k =
      if_mapped (Has s) (Has (wide_shape d)) (value t e) (term_has t s k) (λ v l. given_has variables declared (variable x at d) s v h l)
  assigned_has variables declared (at_key x at d u) t s h k =
      and_then_holds (Has h.0) (Has (wide_shape d)) (λ i. option_and_then (λ v. option_and_then (updated_map i v) (lookup (Word x) e)) (value t e)) (value u e) (term_has u h.0 h.3)
      (λ i l. and_then_holds (Has s) (Has (wide_shape d)) (λ v. option_and_then (updated_map i v) (lookup (Word x) e)) (value t e) (term_has t s k)
      (λ v m. and_then_holds (Has d) (Has (wide_shape d)) (updated_map i v) (lookup (Word x) e) (variable_has x d (declared x d h.1))
      (λ old n. map_updated d h.0 s i v old h.2 l m n)))
  assigned_has variables declared (at_field x at d w) t s h k =
      and_then_holds (Has s) (Has (wide_shape d)) (λ v. option_and_then (with_field d w v) (lookup (Word x) e)) (value t e) (term_has t s k)
      (λ v m. given_has variables declared (at_field x at d w) s v h m)
