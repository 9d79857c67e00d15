-- Operators, functions, displays and fields of values with their shapes have a value, but in the listed cases.
use Rattle.std.proofs.Common.{◌≡◌, ℕ, zero, suc, ℤ, pos, negsuc, Bool, true, false, List, [], ◌∷◌, Option, Some, None, refl, subst, ◌∙◌, if◌then◌else◌, arith}
use Rattle.std.specs.Prelude.{slice_get, nat_le, nat_lt, int_le, int_lt, ◌+ℤ◌, ◌-ℤ◌, ◌*ℤ◌, not, ◌&&◌, ◌||◌}
use Rattle.std.specs.Int.{int_div_euclid, int_rem_euclid}
use Rattle.std.specs.Option.{is_some, option_and_then}
use Rattle.std.proofs.lemmas.Bool.{and_parts}
use Rattle.std.proofs.lemmas.Bool.Decides.{nat_tests}
use Rattle.ioa_values.specs.Data.{Data, Items, number, truth, tuple, sequence, finite_set, finite_map, no_items, item, list_of, pairs_of, items_of}
use Rattle.ioa_values.specs.Collections.{value_at}
use Rattle.ioa_operators.specs.Operators.{on_numbers, on_truths, unary_value, binary_value, call_value, same_truth}
use Rattle.ioa_operators.specs.Shapes.{PlainShape, PlainShapes, truths, integers, tuples, sequences, sets, maps, no_shapes, shape, shapes_of, has_shape, have_shapes, display_value, field_value, field_position}
use Rattle.ioa_terms.specs.Sorted.{UnaryIs, negation, negative, BinaryIs, equivalent, implies, either, both, equal, differ, below, at_most, above, at_least, item_of, member_of, prepended, appended, joined, sum, difference, product, at_key, FunctionIs, head, tail, items, members, keys, quotient, remainder, inserted, deleted, united, updated, removed, defined, DisplayIs, listed_shapes, field_shape}
use Rattle.ioa_terms.specs.Undefined.{is_missing_key, is_empty_end, is_low_divisor, is_negative_tuple}
use Rattle.ioa_terms.proofs.Negatives.{fields_but_for_signs}
use Rattle.ioa_terms.proofs.ShapesKept.{Has, HaveEach, one_value, two_values, three_values, no_values}
use Rattle.ioa_operators.specs.declared.operator.UnaryOperator.{UnaryOperator}
use Rattle.ioa_operators.specs.declared.operator.BinaryOperator.{BinaryOperator}
use Rattle.ioa_operators.specs.declared.operator.Function.{Function}
use Rattle.ioa_operators.specs.declared.operator.Function.TheVariants as function
use Rattle.ioa_operators.specs.declared.shape.DisplayForm.{DisplayForm}
use Rattle.ioa_operators.specs.declared.shape.DisplayForm.TheVariants.{Braces, Brackets}

truths_there : (f : Bool → Bool → Bool) (v w : Data) → Has truths v → Has truths w → is_some (on_truths f v w) ≡ true
truths_there f (truth a) (truth b) h k = refl
truths_there f (truth a) _ h k = absurd (cc)
truths_there f _ w h k = absurd (cc)

numbers_there : (f : ℤ → ℤ → Data) (v w : Data) → Has integers v → Has integers w → is_some (on_numbers f v w) ≡ true
numbers_there f (number m) (number n) h k = refl
numbers_there f (number m) _ h k = absurd (cc)
numbers_there f _ w h k = absurd (cc)

twice_not : (b : Bool) → b ≡ not (not b)
twice_not true = refl
twice_not false = refl

-- an operator before a value
pub unary_there : {op : UnaryOperator} {x s : PlainShape} → UnaryIs op x s → (v : Data) → Has x v → is_some (unary_value op v) ≡ true
unary_there negation (truth b) h = refl
unary_there negation _ h = absurd (cc)
unary_there negative (number z) h = refl
unary_there negative _ h = absurd (cc)

-- an operator between values
pub binary_there : {op : BinaryOperator} {x y s : PlainShape} → BinaryIs op x y s → (v w : Data) → Has x v → Has y w → is_some (binary_value op v w) ≡ not (is_missing_key op v w)
binary_there equivalent v w h k = truths_there same_truth v w h k
binary_there implies v w h k = truths_there (λ a b. not a || b) v w h k
binary_there either v w h k = truths_there (λ a b. a || b) v w h k
binary_there both v w h k = truths_there (λ a b. a && b) v w h k
binary_there equal v w h k = refl
binary_there differ v w h k = refl
binary_there below v w h k = numbers_there (λ m n. truth (int_lt m n)) v w h k
binary_there at_most v w h k = numbers_there (λ m n. truth (int_le m n)) v w h k
binary_there above v w h k = numbers_there (λ m n. truth (int_lt n m)) v w h k
binary_there at_least v w h k = numbers_there (λ m n. truth (int_le n m)) v w h k
binary_there item_of v (sequence ds) h k = refl
binary_there item_of v _ h k = absurd (cc)
binary_there member_of v (finite_set ds) h k = refl
binary_there member_of v _ h k = absurd (cc)
binary_there prepended v (sequence ds) h k = refl
binary_there prepended v _ h k = absurd (cc)
binary_there appended (sequence ds) w h k = refl
binary_there appended _ w h k = absurd (cc)
binary_there joined (sequence ds) (sequence es) h k = refl
binary_there joined (sequence ds) _ h k = absurd (cc)
binary_there joined _ w h k = absurd (cc)
binary_there sum v w h k = numbers_there (λ m n. number (m +ℤ n)) v w h k
binary_there difference v w h k = numbers_there (λ m n. number (m -ℤ n)) v w h k
binary_there product v w h k = numbers_there (λ m n. number (m *ℤ n)) v w h k
binary_there at_key (finite_map es) w h k = twice_not (is_some (value_at w (pairs_of es)))
binary_there at_key _ w h k = absurd (cc)

-- values that have shapes one by one
each_has : (xs : List PlainShape) (vs : List Data) → have_shapes (shapes_of xs) (items_of vs) ≡ true → HaveEach xs vs
each_has [] [] h = tt
each_has [] (v ∷ vs) h = absurd (cc)
each_has (x ∷ xs) [] h = absurd (cc)
each_has (x ∷ xs) (v ∷ vs) h = let p = and_parts (has_shape x v) (have_shapes (shapes_of xs) (items_of vs)) h in (p.0, each_has xs vs p.1)

-- a function has a value, but in the listed cases
abbrev There : Function → List Data → Type 0
There f vs = is_some (call_value f vs) ≡ not (is_empty_end f vs || is_low_divisor f vs)

head_there : (x : PlainShape) (v : Data) → Has (sequences x) v → There function.Head (v ∷ [])
head_there x (sequence no_items) h = refl
head_there x (sequence (item d ds)) h = refl
head_there x _ h = absurd (cc)

tail_there : (x : PlainShape) (v : Data) → Has (sequences x) v → There function.Tail (v ∷ [])
tail_there x (sequence no_items) h = refl
tail_there x (sequence (item d ds)) h = refl
tail_there x _ h = absurd (cc)

length_there : (x : PlainShape) (v : Data) → Has (sequences x) v → There function.Length (v ∷ [])
length_there x (sequence ds) h = refl
length_there x _ h = absurd (cc)

set_size_there : (x : PlainShape) (v : Data) → Has (sets x) v → There function.Size (v ∷ [])
set_size_there x (finite_set ds) h = refl
set_size_there x _ h = absurd (cc)

map_size_there : (x y : PlainShape) (v : Data) → Has (maps x y) v → There function.Size (v ∷ [])
map_size_there x y (finite_map es) h = refl
map_size_there x y _ h = absurd (cc)

tested : (b : Bool) (d : Data) → is_some (if b then Some d else None) ≡ b
tested true d = refl
tested false d = refl

one_or_more : (n : ℕ) → nat_le 1 n ≡ not (nat_lt n 1)
one_or_more n = grind (arith, nat_tests)

not_below_one : (n : ℤ) → int_le (pos 1) n ≡ not (int_lt n (pos 1))
not_below_one (pos n) = one_or_more n
not_below_one (negsuc n) = refl

at_least_one : (n : ℤ) (d : Data) → is_some (if int_le (pos 1) n then Some d else None) ≡ not (int_lt n (pos 1))
at_least_one n d = tested (int_le (pos 1) n) d ∙ not_below_one n

quotient_there : (v w : Data) → Has integers v → Has integers w → There function.Quotient (v ∷ w ∷ [])
quotient_there (number m) (number n) h k = at_least_one n (number (int_div_euclid m n))
quotient_there (number m) _ h k = absurd (cc)
quotient_there _ w h k = absurd (cc)

remainder_there : (v w : Data) → Has integers v → Has integers w → There function.Remainder (v ∷ w ∷ [])
remainder_there (number m) (number n) h k = at_least_one n (number (int_rem_euclid m n))
remainder_there (number m) _ h k = absurd (cc)
remainder_there _ w h k = absurd (cc)

insert_there : (x : PlainShape) (v w : Data) → Has (sets x) w → There function.Insert (v ∷ w ∷ [])
insert_there x v (finite_set ds) h = refl
insert_there x v _ h = absurd (cc)

delete_there : (x : PlainShape) (v w : Data) → Has (sets x) w → There function.Delete (v ∷ w ∷ [])
delete_there x v (finite_set ds) h = refl
delete_there x v _ h = absurd (cc)

union_there : (x : PlainShape) (v w : Data) → Has (sets x) v → Has (sets x) w → There function.Union (v ∷ w ∷ [])
union_there x (finite_set ds) (finite_set es) h k = refl
union_there x (finite_set ds) _ h k = absurd (cc)
union_there x _ w h k = absurd (cc)

update_there : (x y : PlainShape) (u v w : Data) → Has (maps x y) u → There function.Update (u ∷ v ∷ w ∷ [])
update_there x y (finite_map es) v w h = refl
update_there x y _ v w h = absurd (cc)

remove_there : (x y : PlainShape) (v w : Data) → Has (maps x y) v → There function.Remove (v ∷ w ∷ [])
remove_there x y (finite_map es) w h = refl
remove_there x y _ w h = absurd (cc)

defined_there : (x y : PlainShape) (v w : Data) → Has (maps x y) v → There function.Defined (v ∷ w ∷ [])
defined_there x y (finite_map es) w h = refl
defined_there x y _ w h = absurd (cc)

each_there : {f : Function} {xs : List PlainShape} {s : PlainShape} → FunctionIs f xs s → (vs : List Data) → HaveEach xs vs → There f vs
each_there (head {x}) vs h = one_value (There function.Head) (sequences x) (head_there x) vs h
each_there (tail {x}) vs h = one_value (There function.Tail) (sequences x) (tail_there x) vs h
each_there (items {x}) vs h = one_value (There function.Length) (sequences x) (length_there x) vs h
each_there (members {x}) vs h = one_value (There function.Size) (sets x) (set_size_there x) vs h
each_there (keys {k = x} {v = y}) vs h = one_value (There function.Size) (maps x y) (map_size_there x y) vs h
each_there quotient vs h = two_values (There function.Quotient) integers integers quotient_there vs h
each_there remainder vs h = two_values (There function.Remainder) integers integers remainder_there vs h
each_there (inserted {x}) vs h = two_values (There function.Insert) x (sets x) (λ v w k l. insert_there x v w l) vs h
each_there (deleted {x}) vs h = two_values (There function.Delete) x (sets x) (λ v w k l. delete_there x v w l) vs h
each_there (united {x}) vs h = two_values (There function.Union) (sets x) (sets x) (union_there x) vs h
each_there (updated {k = x} {v = y}) vs h = three_values (There function.Update) (maps x y) x y (λ u v w j k l. update_there x y u v w j) vs h
each_there (removed {k = x} {v = y}) vs h = two_values (There function.Remove) (maps x y) x (λ v w k l. remove_there x y v w k) vs h
each_there (defined {k = x} {v = y}) vs h = two_values (There function.Defined) (maps x y) x (λ v w k l. defined_there x y v w k) vs h

pub function_there : {f : Function} {xs : List PlainShape} {s : PlainShape} → FunctionIs f xs s → (vs : List Data) → have_shapes (shapes_of xs) (items_of vs) ≡ true → is_some (call_value f vs) ≡ not (is_empty_end f vs || is_low_divisor f vs)
function_there {xs} r vs h = each_there r vs (each_has xs vs h)

-- a display
each_display_there : (form : DisplayForm) (s : PlainShape) (xs : List PlainShape) (vs : List Data) → DisplayIs form xs s → have_shapes (shapes_of xs) (items_of vs) ≡ true → is_some (display_value form s vs) ≡ not (is_negative_tuple form s vs)
each_display_there Braces (sequences x) xs vs d h = refl
each_display_there Braces (sets x) xs vs d h = refl
each_display_there Braces (maps k v) xs vs d h = no_values (λ vs. is_some (display_value Braces (maps k v) vs) ≡ true) refl xs vs d (each_has xs vs h)
each_display_there Brackets (tuples type names fields) xs vs d h =
    let fit = subst (λ (ys : List PlainShape). have_shapes (shapes_of ys) (items_of vs) ≡ true) d h in
    tested (have_shapes fields (items_of vs)) (tuple (items_of vs)) ∙ fields_but_for_signs fields (items_of vs) fit
each_display_there form s xs vs d h = absurd d

pub display_there : (form : DisplayForm) (s : PlainShape) (xs : List PlainShape) → DisplayIs form xs s → (vs : List Data) → have_shapes (shapes_of xs) (items_of vs) ≡ true → is_some (display_value form s vs) ≡ not (is_negative_tuple form s vs)
display_there form s xs d vs h = each_display_there form s xs vs d h

-- a field
part_there : (ss : PlainShapes) (ds : Items) (i : ℕ) (s : PlainShape) → have_shapes ss ds ≡ true → slice_get (listed_shapes ss) i ≡ Some s → is_some (slice_get (list_of ds) i) ≡ true
part_there no_shapes ds i s h e = absurd (cc)
part_there (shape x ss) no_items i s h e = absurd (cc)
part_there (shape x ss) (item d ds) zero s h e = refl
part_there (shape x ss) (item d ds) (suc i) s h e = part_there ss ds i s (and_parts (has_shape x d) (have_shapes ss ds) h).1 e

named_part_there : (ss : PlainShapes) (ds : Items) (o : Option ℕ) (s : PlainShape) → have_shapes ss ds ≡ true → option_and_then (slice_get (listed_shapes ss)) o ≡ Some s → is_some (option_and_then (slice_get (list_of ds)) o) ≡ true
named_part_there ss ds None s h e = absurd (cc)
named_part_there ss ds (Some i) s h e = part_there ss ds i s h e

pub field_there : (t s : PlainShape) (w : List ℕ) → field_shape w t ≡ Some s → (v : Data) → Has t v → is_some (field_value t w v) ≡ true
field_there (tuples type names ss) s w e (tuple ds) h = named_part_there ss ds (field_position w names) s h e
field_there (tuples type names ss) s w e _ h = absurd (cc)
field_there _ s w e v h = absurd (cc)
