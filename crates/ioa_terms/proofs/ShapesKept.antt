-- Values that operators, functions, displays and fields make of values with their shapes have theirs.
use Rattle.std.proofs.Common.{◌≡◌, ℕ, zero, suc, true, false, List, [], ◌∷◌, ◌++◌, Option, Some, None, refl, subst}
use Rattle.std.specs.Prelude.{ℤ, slice_get, int_le, int_lt, ◌+ℤ◌, ◌-ℤ◌, ◌*ℤ◌, neg_ℤ, not, ◌&&◌, ◌||◌}
use Rattle.std.specs.Int.{int_div_euclid, int_rem_euclid}
use Rattle.std.specs.List.{AllByRecursion}
use Rattle.std.specs.Option.{IfSome, option_and_then, option_map}
use Rattle.ioa_values.proofs.AllOf.{all_appended}
use Rattle.ioa_values.proofs.AllKept.{all_of_list, all_of_either, all_with_entry, all_without_key, value_at_holds}
use Rattle.ioa_values.proofs.Ascending.{all_with, all_without}
use Rattle.ioa_operators.proofs.Holding.{map_holds, and_then_holds, map_holds_any, test_holds, numbers_hold, truths_hold, division_holds, member_holds, size_holds, first_holds, rest_holds}
use Rattle.ioa_values.specs.Data.{Data, Items, Entries, number, truth, tuple, sequence, finite_set, finite_map, no_items, item, no_entries, entry, list_of, pairs_of, items_of, entries_of, as_number, as_truth}
use Rattle.ioa_values.specs.Collections.{with_member, without_member, set_of, union, value_at, with_entry, without_key}
use Rattle.ioa_operators.specs.Operators.{sequence_of, finite_set_of, finite_map_of, as_sequence, as_set, as_map, unary_value, binary_value, left_decision, first, rest, count, is_there, call_value, same_truth}
use Rattle.ioa_operators.specs.Shapes.{PlainShape, PlainShapes, truths, integers, naturals, constants, tuples, sequences, sets, maps, no_shapes, shape, has_shape, have_shapes, all_have, entries_have, display_value, field_value, field_position}
use Rattle.ioa_terms.specs.Inboxes.{PlainInboxes, inbox_entries, inboxes_value}
use Rattle.ioa_terms.specs.Sorted.{shape_in_terms, UnaryIs, negation, negative, BinaryIs, equivalent, implies, either, both, equal, differ, below, at_most, above, at_least, item_of, member_of, prepended, appended, joined, sum, difference, product, at_key, FunctionIs, head, tail, items, members, keys, quotient, remainder, inserted, deleted, united, updated, removed, defined, DisplayIs, listed_shapes, field_shape}
use Rattle.ioa_operators.specs.declared.operator.UnaryOperator.{UnaryOperator}
use Rattle.ioa_operators.specs.declared.operator.BinaryOperator.{BinaryOperator}
use Rattle.ioa_operators.specs.declared.operator.Function.{Function}
use Rattle.ioa_operators.specs.declared.operator.Function.TheVariants as function
use Rattle.ioa_operators.specs.declared.shape.DisplayForm.{DisplayForm}
use Rattle.ioa_operators.specs.declared.shape.DisplayForm.TheVariants.{Braces, Brackets}
use Rattle.std.proofs.lemmas.Bool.{and_parts}

-- a value has a shape; an entry has two
abbrev pub Has : PlainShape → Data → Type 0
Has s v = has_shape s v ≡ true

abbrev pub HasEntry : PlainShape → PlainShape → Data × Data → Type 0
HasEntry k v p = Has k p.0 × Has v p.1

-- values have shapes, one by one
abbrev pub HaveEach : List PlainShape → List Data → Type 0
HaveEach [] [] = Unit {0}
HaveEach [] (v ∷ vs) = ⊥
HaveEach (x ∷ xs) [] = ⊥
HaveEach (x ∷ xs) (v ∷ vs) = Has x v × HaveEach xs vs

-- items that all have a shape are a list of values that do, and back
all_items : (s : PlainShape) (ds : Items) → all_have s ds ≡ true → AllByRecursion (Has s) (list_of ds)
all_items s no_items h = tt
all_items s (item d ds) h = let p = and_parts (has_shape s d) (all_have s ds) h in (p.0, all_items s ds p.1)

items_all : (s : PlainShape) (ds : List Data) → AllByRecursion (Has s) ds → all_have s (items_of ds) ≡ true
items_all s [] h = refl
items_all s (d ∷ ds) h = rw (h.0) (items_all s ds h.1)

all_entries : (k v : PlainShape) (es : Entries) → entries_have k v es ≡ true → AllByRecursion (HasEntry k v) (pairs_of es)
all_entries k v no_entries h = tt
all_entries k v (entry x y es) h =
    let p = and_parts (has_shape k x) (has_shape v y && entries_have k v es) h in
    let q = and_parts (has_shape v y) (entries_have k v es) p.1 in
    ((p.0, q.0), all_entries k v es q.1)

entries_all : (k v : PlainShape) (es : List (Data × Data)) → AllByRecursion (HasEntry k v) es → entries_have k v (entries_of es) ≡ true
entries_all k v [] h = refl
entries_all k v (e ∷ es) h = rw (h.0.0, h.0.1) (entries_all k v es h.1)

-- the parts of a value that has a shape
sequence_items : (s : PlainShape) (x : Data) → Has (sequences s) x → IfSome (as_sequence x) (AllByRecursion (Has s))
sequence_items s (sequence ds) h = all_items s ds h
sequence_items s _ h = tt

set_members : (s : PlainShape) (x : Data) → Has (sets s) x → IfSome (as_set x) (AllByRecursion (Has s))
set_members s (finite_set ds) h = all_items s ds h
set_members s _ h = tt

map_entries : (k v : PlainShape) (x : Data) → Has (maps k v) x → IfSome (as_map x) (AllByRecursion (HasEntry k v))
map_entries k v (finite_map es) h = all_entries k v es h
map_entries k v _ h = tt

-- what an operator before a value makes
pub unary_has : {op : UnaryOperator} {x s : PlainShape} → UnaryIs op x s → (v : Data) → IfSome (unary_value op v) (Has s)
unary_has negation v = map_holds_any (Has truths) (λ b. truth (not b)) (as_truth v) (λ b. refl)
unary_has negative v = map_holds_any (Has integers) (λ m. number (neg_ℤ m)) (as_number v) (λ m. refl)

-- what the left side of an operator decides
pub decision_has : {op : BinaryOperator} {x y s : PlainShape} → BinaryIs op x y s → (v : Data) → IfSome (left_decision op v) (Has s)
decision_has both (truth false) = refl
decision_has both _ = tt
decision_has either (truth true) = refl
decision_has either _ = tt
decision_has implies (truth false) = refl
decision_has implies _ = tt
decision_has _ v = tt

-- what an operator between values makes
pub binary_has : {op : BinaryOperator} {x y s : PlainShape} → BinaryIs op x y s → (v w : Data) → Has x v → Has y w → IfSome (binary_value op v w) (Has s)
binary_has equivalent v w h k = truths_hold (Has truths) same_truth v w (λ b. refl)
binary_has implies v w h k = truths_hold (Has truths) (λ a b. not a || b) v w (λ b. refl)
binary_has either v w h k = truths_hold (Has truths) (λ a b. a || b) v w (λ b. refl)
binary_has both v w h k = truths_hold (Has truths) (λ a b. a && b) v w (λ b. refl)
binary_has equal v w h k = refl
binary_has differ v w h k = refl
binary_has below v w h k = numbers_hold (Has truths) (λ m n. truth (int_lt m n)) v w (λ m n. refl)
binary_has at_most v w h k = numbers_hold (Has truths) (λ m n. truth (int_le m n)) v w (λ m n. refl)
binary_has above v w h k = numbers_hold (Has truths) (λ m n. truth (int_lt n m)) v w (λ m n. refl)
binary_has at_least v w h k = numbers_hold (Has truths) (λ m n. truth (int_le n m)) v w (λ m n. refl)
binary_has item_of v w h k = member_holds (Has truths) v w (λ b. refl)
binary_has member_of v w h k = member_holds (Has truths) v w (λ b. refl)
binary_has (prepended {x}) v w h k =
    map_holds (AllByRecursion (Has x)) (Has (sequences x)) (λ ds. sequence_of (v ∷ ds)) (as_sequence w) (sequence_items x w k) (λ ds p. items_all x (v ∷ ds) (h, p))
binary_has (appended {x}) v w h k =
    map_holds (AllByRecursion (Has x)) (Has (sequences x)) (λ ds. sequence_of (ds ++ w ∷ [])) (as_sequence v) (sequence_items x v h)
    (λ ds p. items_all x (ds ++ w ∷ []) (all_appended (Has x) ds (w ∷ []) p (k, tt)))
binary_has (joined {x}) v w h k =
    and_then_holds (AllByRecursion (Has x)) (Has (sequences x)) (λ ds. option_map (λ es. sequence_of (ds ++ es)) (as_sequence w)) (as_sequence v) (sequence_items x v h)
    (λ ds p. map_holds (AllByRecursion (Has x)) (Has (sequences x)) (λ es. sequence_of (ds ++ es)) (as_sequence w) (sequence_items x w k)
    (λ es q. items_all x (ds ++ es) (all_appended (Has x) ds es p q)))
binary_has sum v w h k = numbers_hold (Has integers) (λ m n. number (m +ℤ n)) v w (λ m n. refl)
binary_has difference v w h k = numbers_hold (Has integers) (λ m n. number (m -ℤ n)) v w (λ m n. refl)
binary_has product v w h k = numbers_hold (Has integers) (λ m n. number (m *ℤ n)) v w (λ m n. refl)
binary_has (at_key {k = x} {v = y}) v w h k =
    and_then_holds (AllByRecursion (HasEntry x y)) (Has y) (value_at w) (as_map v) (map_entries x y v h) (λ es p. value_at_holds (Has x) (Has y) w es p)

-- values of one, two and three shapes are one, two and three
pub one_value : (Q : List Data → Type 0) (x : PlainShape) → ((v : Data) → Has x v → Q (v ∷ [])) → (vs : List Data) → HaveEach (x ∷ []) vs → Q vs
one_value Q x g [] h = absurd h
one_value Q x g (v ∷ []) h = g v h.0
one_value Q x g (v ∷ (w ∷ ws)) h = absurd h.1

pub two_values : (Q : List Data → Type 0) (x y : PlainShape) → ((v w : Data) → Has x v → Has y w → Q (v ∷ w ∷ [])) → (vs : List Data) → HaveEach (x ∷ y ∷ []) vs → Q vs
two_values Q x y g [] h = absurd h
two_values Q x y g (v ∷ vs) h = one_value (λ ws. Q (v ∷ ws)) y (λ w k. g v w h.0 k) vs h.1

pub three_values : (Q : List Data → Type 0) (x y z : PlainShape) → ((u v w : Data) → Has x u → Has y v → Has z w → Q (u ∷ v ∷ w ∷ [])) → (vs : List Data) → HaveEach (x ∷ y ∷ z ∷ []) vs → Q vs
three_values Q x y z g [] h = absurd h
three_values Q x y z g (u ∷ vs) h = two_values (λ ws. Q (u ∷ ws)) y z (λ v w k l. g u v w h.0 k l) vs h.1

-- what a function makes
pub function_has : {f : Function} {xs : List PlainShape} {s : PlainShape} → FunctionIs f xs s → (vs : List Data) → HaveEach xs vs → IfSome (call_value f vs) (Has s)
function_has (head {x}) vs h =
    one_value (λ vs. IfSome (call_value function.Head vs) (Has x)) (sequences x)
    (λ v k. and_then_holds (AllByRecursion (Has x)) (Has x) first (as_sequence v) (sequence_items x v k) (first_holds (Has x))) vs h
function_has (tail {x}) vs h =
    one_value (λ vs. IfSome (call_value function.Tail vs) (Has (sequences x))) (sequences x)
    (λ v k. and_then_holds (AllByRecursion (Has x)) (Has (sequences x)) rest (as_sequence v) (sequence_items x v k) (rest_holds (Has x) (Has (sequences x)) (items_all x))) vs h
function_has (items {x}) vs h =
    one_value (λ vs. IfSome (call_value function.Length vs) (Has integers)) (sequences x)
    (λ v k. map_holds_any (Has integers) (λ (ds : List Data). count ds) (as_sequence v) (λ ds. refl)) vs h
function_has (members {x}) vs h =
    one_value (λ vs. IfSome (call_value function.Size vs) (Has integers)) (sets x) (λ v k. size_holds (Has integers) v (λ z. refl)) vs h
function_has (keys {k} {v}) vs h =
    one_value (λ vs. IfSome (call_value function.Size vs) (Has integers)) (maps k v) (λ v k. size_holds (Has integers) v (λ z. refl)) vs h
function_has quotient vs h =
    two_values (λ vs. IfSome (call_value function.Quotient vs) (Has integers)) integers integers (λ v w k l. division_holds (Has integers) int_div_euclid v w (λ z. refl)) vs h
function_has remainder vs h =
    two_values (λ vs. IfSome (call_value function.Remainder vs) (Has integers)) integers integers (λ v w k l. division_holds (Has integers) int_rem_euclid v w (λ z. refl)) vs h
function_has (inserted {x}) vs h =
    two_values (λ vs. IfSome (call_value function.Insert vs) (Has (sets x))) x (sets x)
    (λ v w k l. map_holds (AllByRecursion (Has x)) (Has (sets x)) (λ ds. finite_set_of (with_member v ds)) (as_set w) (set_members x w l)
    (λ ds p. items_all x (with_member v ds) (all_with (Has x) v ds k p))) vs h
function_has (deleted {x}) vs h =
    two_values (λ vs. IfSome (call_value function.Delete vs) (Has (sets x))) x (sets x)
    (λ v w k l. map_holds (AllByRecursion (Has x)) (Has (sets x)) (λ ds. finite_set_of (without_member v ds)) (as_set w) (set_members x w l)
    (λ ds p. items_all x (without_member v ds) (all_without (Has x) v ds p))) vs h
function_has (united {x}) vs h =
    two_values (λ vs. IfSome (call_value function.Union vs) (Has (sets x))) (sets x) (sets x)
    (λ v w k l. and_then_holds (AllByRecursion (Has x)) (Has (sets x)) (λ ds. option_map (λ es. finite_set_of (union ds es)) (as_set w)) (as_set v) (set_members x v k)
    (λ ds p. map_holds (AllByRecursion (Has x)) (Has (sets x)) (λ es. finite_set_of (union ds es)) (as_set w) (set_members x w l)
    (λ es q. items_all x (union ds es) (all_of_either (Has x) ds es p q)))) vs h
function_has (updated {k = x} {v = y}) vs h =
    three_values (λ vs. IfSome (call_value function.Update vs) (Has (maps x y))) (maps x y) x y
    (λ u v w j k l. map_holds (AllByRecursion (HasEntry x y)) (Has (maps x y)) (λ es. finite_map_of (with_entry v w es)) (as_map u) (map_entries x y u j)
    (λ es p. entries_all x y (with_entry v w es) (all_with_entry (HasEntry x y) v w es (k, l) p))) vs h
function_has (removed {k = x} {v = y}) vs h =
    two_values (λ vs. IfSome (call_value function.Remove vs) (Has (maps x y))) (maps x y) x
    (λ v w k l. map_holds (AllByRecursion (HasEntry x y)) (Has (maps x y)) (λ es. finite_map_of (without_key w es)) (as_map v) (map_entries x y v k)
    (λ es p. entries_all x y (without_key w es) (all_without_key (HasEntry x y) w es p))) vs h
function_has (defined {k = x} {v = y}) vs h =
    two_values (λ vs. IfSome (call_value function.Defined vs) (Has truths)) (maps x y) x
    (λ v w k l. map_holds_any (Has truths) (λ es. truth (is_there (value_at w es))) (as_map v) (λ es. refl)) vs h

-- values of equal shapes all have that one
all_alike : (x : PlainShape) (xs : List PlainShape) (vs : List Data) → AllByRecursion (λ y. y ≡ x) xs → HaveEach xs vs → AllByRecursion (Has x) vs
all_alike x [] [] e h = tt
all_alike x [] (v ∷ vs) e h = absurd h
all_alike x (y ∷ ys) [] e h = absurd h
all_alike x (y ∷ ys) (v ∷ vs) e h = (subst (λ (s : PlainShape). Has s v) e.0 h.0, all_alike x ys vs e.1 h.1)

pub no_values : (Q : List Data → Type 0) → Q [] → (xs : List PlainShape) (vs : List Data) → xs ≡ [] → HaveEach xs vs → Q vs
no_values Q q [] [] e h = q
no_values Q q [] (v ∷ vs) e h = absurd h
no_values Q q (x ∷ xs) vs e h = absurd (cc)

-- what a display makes
pub display_has : (form : DisplayForm) (s : PlainShape) (xs : List PlainShape) (vs : List Data) → DisplayIs form xs s → HaveEach xs vs → IfSome (display_value form s vs) (Has s)
display_has Braces (sequences x) xs vs d h = items_all x vs (all_alike x xs vs d h)
display_has Braces (sets x) xs vs d h = items_all x (set_of vs) (all_of_list (Has x) vs (all_alike x xs vs d h))
display_has Braces (maps k v) xs vs d h = no_values (λ vs. IfSome (display_value Braces (maps k v) vs) (Has (maps k v))) refl xs vs d h
display_has Brackets (tuples type names fields) xs vs d h = test_holds (Has (tuples type names fields)) (have_shapes fields (items_of vs)) (tuple (items_of vs)) (λ k. k)
display_has form s xs vs d h = absurd d

-- a value with a shape has it too with integers for naturals
mutual
  pub shape_in_terms_has : (s : PlainShape) (v : Data) → has_shape s v ≡ true → has_shape (shape_in_terms s) v ≡ true
  shape_in_terms_has truths v h = h
  shape_in_terms_has integers v h = h
  shape_in_terms_has naturals (number z) h = refl
  shape_in_terms_has naturals _ h = absurd (cc)
  shape_in_terms_has (constants type from many) v h = h
  shape_in_terms_has (tuples type names fields) v h = h
  shape_in_terms_has (sequences s) (sequence ds) h = shape_in_terms_all s ds h
  shape_in_terms_has (sequences s) _ h = absurd (cc)
  shape_in_terms_has (sets s) (finite_set ds) h = shape_in_terms_all s ds h
  shape_in_terms_has (sets s) _ h = absurd (cc)
  shape_in_terms_has (maps x y) (finite_map es) h = shape_in_terms_entries x y es h
  shape_in_terms_has (maps x y) _ h = absurd (cc)

  shape_in_terms_all : (s : PlainShape) (ds : Items) → all_have s ds ≡ true → all_have (shape_in_terms s) ds ≡ true
  shape_in_terms_all s no_items h = refl
  shape_in_terms_all s (item d ds) h =
      let p = and_parts (has_shape s d) (all_have s ds) h in
      rw (shape_in_terms_has s d p.0) (shape_in_terms_all s ds p.1)

  shape_in_terms_entries : (x y : PlainShape) (es : Entries) → entries_have x y es ≡ true → entries_have (shape_in_terms x) (shape_in_terms y) es ≡ true
  shape_in_terms_entries x y no_entries h = refl
  shape_in_terms_entries x y (entry k v es) h =
      let p = and_parts (has_shape x k) (has_shape y v && entries_have x y es) h in
      let q = and_parts (has_shape y v) (entries_have x y es) p.1 in
      rw (shape_in_terms_has x k p.0, shape_in_terms_has y v q.0) (shape_in_terms_entries x y es q.1)

-- the field at a position has the shape at that position
part_has : (ss : PlainShapes) (ds : Items) (i : ℕ) (s : PlainShape) → have_shapes ss ds ≡ true → option_map shape_in_terms (slice_get (listed_shapes ss) i) ≡ Some s → IfSome (slice_get (list_of ds) i) (Has s)
part_has ss no_items i s h e = tt
part_has no_shapes (item d ds) i s h e = absurd (cc)
part_has (shape x ss) (item d ds) zero s h e =
    let p = and_parts (has_shape x d) (have_shapes ss ds) h in
    let f : shape_in_terms x ≡ s = cc in
    subst (λ (z : PlainShape). Has z d) f (shape_in_terms_has x d p.0)
part_has (shape x ss) (item d ds) (suc i) s h e = part_has ss ds i s (and_parts (has_shape x d) (have_shapes ss ds) h).1 e

named_part_has : (ss : PlainShapes) (ds : Items) (o : Option ℕ) (s : PlainShape) → have_shapes ss ds ≡ true → option_map shape_in_terms (option_and_then (slice_get (listed_shapes ss)) o) ≡ Some s → IfSome (option_and_then (slice_get (list_of ds)) o) (Has s)
named_part_has ss ds None s h e = tt
named_part_has ss ds (Some i) s h e = part_has ss ds i s h e

-- what a field makes
pub field_has : (t : PlainShape) (w : List ℕ) (s : PlainShape) (v : Data) → option_map shape_in_terms (field_shape w t) ≡ Some s → Has t v → IfSome (field_value t w v) (Has s)
field_has (tuples type names ss) w s (tuple ds) e h = named_part_has ss ds (field_position w names) s h e
field_has t w s v e h = tt

-- the map of inboxes, all of whose messages have a shape
abbrev pub HoldShaped : PlainShape → PlainInboxes → Type 0
HoldShaped s is = AllByRecursion (λ (i : ℤ × List Data). AllByRecursion (Has s) i.1) is

inbox_entries_have : (s : PlainShape) (is : PlainInboxes) → HoldShaped s is → AllByRecursion (HasEntry integers (sequences s)) (inbox_entries is)
inbox_entries_have s [] h = tt
inbox_entries_have s (i ∷ is) h = all_with_entry (HasEntry integers (sequences s)) (number i.0) (sequence (items_of i.1)) (inbox_entries is) (refl, items_all s i.1 h.0) (inbox_entries_have s is h.1)

pub inboxes_have : (s : PlainShape) (is : PlainInboxes) → HoldShaped s is → Has (maps integers (sequences s)) (inboxes_value is)
inboxes_have s is h = entries_all integers (sequences s) (inbox_entries is) (inbox_entries_have s is h)
