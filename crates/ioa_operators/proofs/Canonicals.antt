-- Operators, functions, displays and fields make canonical values of canonical values.
use Rattle.std.proofs.Common.{◌≡◌, ℕ, Bool, true, false, List, [], ◌∷◌, ◌++◌, Option, Some, None, Result, Ok, Err, if◌then◌else◌}
use Rattle.std.specs.Prelude.{slice_get, slice_set, int_le, int_lt, ◌+ℤ◌, ◌-ℤ◌, ◌*ℤ◌, neg_ℤ, not, ◌&&◌, ◌||◌}
use Rattle.std.specs.Int.{int_div_euclid, int_rem_euclid}
use Rattle.std.specs.Option.{IfSome, option_map}
use Rattle.std.specs.Result.{IfOk}
use Rattle.ioa_values.proofs.AllOf.{all_appended}
use Rattle.ioa_values.proofs.AllKept.{one_of_all, all_replaced, all_of_list, all_of_either, all_with_entry, all_without_key, value_at_holds}
use Rattle.ioa_values.proofs.Ascending.{all_with, all_without, with_member_ascends, without_member_ascends, set_of_ascends, union_ascends, with_entry_ascends, without_key_ascends}
use Rattle.ioa_values.specs.Data.{Data, number, truth, constant, tuple, sequence, finite_set, finite_map, list_of, items_of, as_number, as_truth, is_within}
use Rattle.ioa_values.specs.Collections.{IsAscending, keys_of, with_member, without_member, set_of, union, value_at, with_entry, without_key}
use Rattle.ioa_operators.specs.Operators.{sequence_of, finite_set_of, finite_map_of, as_sequence, as_set, as_map, unary_value, binary_value, first, rest, count, is_there, call_one, call_two, call_three, call_value, same_truth}
use Rattle.ioa_operators.specs.Shapes.{PlainShape, tuples, sequences, sets, maps, display_value, field_value, with_field, field_position, replaced_part, have_shapes}
use Rattle.ioa_operators.specs.RangeCheck.{AnswersOrLacks, checked_result}
use Rattle.ioa_operators.specs.declared.fault.TermFault.{TermFault}
use Rattle.ioa_operators.specs.declared.fault.TermFault.TheVariants.{Range}
use Rattle.ioa_operators.specs.declared.operator.UnaryOperator.{UnaryOperator}
use Rattle.ioa_operators.specs.declared.operator.UnaryOperator.TheVariants as one
use Rattle.ioa_operators.specs.declared.operator.BinaryOperator.{BinaryOperator}
use Rattle.ioa_operators.specs.declared.operator.BinaryOperator.TheVariants as two
use Rattle.ioa_operators.specs.declared.operator.Function.{Function}
use Rattle.ioa_operators.specs.declared.operator.Function.TheVariants as fun
use Rattle.ioa_operators.specs.declared.shape.DisplayForm.{DisplayForm}
use Rattle.ioa_operators.specs.declared.shape.DisplayForm.TheVariants.{Braces, Brackets}
use Rattle.ioa_values.specs.Canonical.{IsCanonical, IsCanonicalEntry, AllCanonical, AllEntriesCanonical}
use Rattle.ioa_operators.proofs.Holding.{map_holds, and_then_holds, map_holds_any, and_then_holds_any, test_holds, numbers_hold, truths_hold, division_holds, member_holds, size_holds, first_holds, rest_holds}
use Rattle.ioa_values.proofs.Canonicals.{all_items, items_all, all_entries, made_set, made_map}

-- the parts of a canonical value, if it is of their kind
sequence_items : (x : Data) → IsCanonical x → IfSome (as_sequence x) AllCanonical
sequence_items (number z) h = tt
sequence_items (truth b) h = tt
sequence_items (constant k) h = tt
sequence_items (tuple ds) h = tt
sequence_items (sequence ds) h = all_items ds h
sequence_items (finite_set ds) h = tt
sequence_items (finite_map es) h = tt

set_members : (x : Data) → IsCanonical x → IfSome (as_set x) (λ ds. IsAscending ds × AllCanonical ds)
set_members (number z) h = tt
set_members (truth b) h = tt
set_members (constant k) h = tt
set_members (tuple ds) h = tt
set_members (sequence ds) h = tt
set_members (finite_set ds) h = (h.0, all_items ds h.1)
set_members (finite_map es) h = tt

map_entries : (x : Data) → IsCanonical x → IfSome (as_map x) (λ es. IsAscending (keys_of es) × AllEntriesCanonical es)
map_entries (number z) h = tt
map_entries (truth b) h = tt
map_entries (constant k) h = tt
map_entries (tuple ds) h = tt
map_entries (sequence ds) h = tt
map_entries (finite_set ds) h = tt
map_entries (finite_map es) h = (h.0, all_entries es h.1)

-- an operator before a value
pub unary_canonical : (op : UnaryOperator) (x : Data) → IfSome (unary_value op x) IsCanonical
unary_canonical one.Not x = map_holds_any IsCanonical (λ b. truth (not b)) (as_truth x) (λ b. tt)
unary_canonical one.Negative x = map_holds_any IsCanonical (λ m. number (neg_ℤ m)) (as_number x) (λ m. tt)

-- an operator between values
pub binary_canonical : (op : BinaryOperator) (x y : Data) → IsCanonical x → IsCanonical y → IfSome (binary_value op x y) IsCanonical
binary_canonical two.Equivalent x y h k = truths_hold IsCanonical same_truth x y (λ b. tt)
binary_canonical two.Implies x y h k = truths_hold IsCanonical (λ a b. not a || b) x y (λ b. tt)
binary_canonical two.Or x y h k = truths_hold IsCanonical (λ a b. a || b) x y (λ b. tt)
binary_canonical two.And x y h k = truths_hold IsCanonical (λ a b. a && b) x y (λ b. tt)
binary_canonical two.Equal x y h k = tt
binary_canonical two.NotEqual x y h k = tt
binary_canonical two.Less x y h k = numbers_hold IsCanonical (λ m n. truth (int_lt m n)) x y (λ m n. tt)
binary_canonical two.AtMost x y h k = numbers_hold IsCanonical (λ m n. truth (int_le m n)) x y (λ m n. tt)
binary_canonical two.Greater x y h k = numbers_hold IsCanonical (λ m n. truth (int_lt n m)) x y (λ m n. tt)
binary_canonical two.AtLeast x y h k = numbers_hold IsCanonical (λ m n. truth (int_le n m)) x y (λ m n. tt)
binary_canonical two.Member x y h k = member_holds IsCanonical x y (λ b. tt)
binary_canonical two.Prepend x y h k = map_holds AllCanonical IsCanonical (λ ds. sequence_of (x ∷ ds)) (as_sequence y) (sequence_items y k) (λ ds p. items_all (x ∷ ds) (h, p))
binary_canonical two.Append x y h k = map_holds AllCanonical IsCanonical (λ ds. sequence_of (ds ++ y ∷ [])) (as_sequence x) (sequence_items x h) (λ ds p. items_all (ds ++ y ∷ []) (all_appended IsCanonical ds (y ∷ []) p (k, tt)))
binary_canonical two.Concatenate x y h k =
    and_then_holds AllCanonical IsCanonical (λ ds. option_map (λ es. sequence_of (ds ++ es)) (as_sequence y)) (as_sequence x) (sequence_items x h)
    (λ ds p. map_holds AllCanonical IsCanonical (λ es. sequence_of (ds ++ es)) (as_sequence y) (sequence_items y k) (λ es q. items_all (ds ++ es) (all_appended IsCanonical ds es p q)))
binary_canonical two.Plus x y h k = numbers_hold IsCanonical (λ m n. number (m +ℤ n)) x y (λ m n. tt)
binary_canonical two.Minus x y h k = numbers_hold IsCanonical (λ m n. number (m -ℤ n)) x y (λ m n. tt)
binary_canonical two.Times x y h k = numbers_hold IsCanonical (λ m n. number (m *ℤ n)) x y (λ m n. tt)
binary_canonical two.At x y h k = and_then_holds (λ es. IsAscending (keys_of es) × AllEntriesCanonical es) IsCanonical (value_at y) (as_map x) (map_entries x h) (λ es p. value_at_holds IsCanonical IsCanonical y es p.1)

of_one : (f : Function) (x : Data) → IsCanonical x → IfSome (call_one f x) IsCanonical
of_one fun.Head x h = and_then_holds AllCanonical IsCanonical first (as_sequence x) (sequence_items x h) (first_holds IsCanonical)
of_one fun.Tail x h = and_then_holds AllCanonical IsCanonical rest (as_sequence x) (sequence_items x h) (rest_holds IsCanonical IsCanonical items_all)
of_one fun.Length x h = map_holds_any IsCanonical (λ (ds : List Data). count ds) (as_sequence x) (λ ds. tt)
of_one fun.Size x h = size_holds IsCanonical x (λ z. tt)
of_one _ x h = tt

of_two : (f : Function) (x y : Data) → IsCanonical x → IsCanonical y → IfSome (call_two f x y) IsCanonical
of_two fun.Quotient x y h k = division_holds IsCanonical int_div_euclid x y (λ z. tt)
of_two fun.Remainder x y h k = division_holds IsCanonical int_rem_euclid x y (λ z. tt)
of_two fun.Insert x y h k =
    map_holds (λ ds. IsAscending ds × AllCanonical ds) IsCanonical (λ ds. finite_set_of (with_member x ds)) (as_set y) (set_members y k)
    (λ ds p. made_set (with_member x ds) (with_member_ascends x ds p.0) (all_with IsCanonical x ds h p.1))
of_two fun.Delete x y h k =
    map_holds (λ ds. IsAscending ds × AllCanonical ds) IsCanonical (λ ds. finite_set_of (without_member x ds)) (as_set y) (set_members y k)
    (λ ds p. made_set (without_member x ds) (without_member_ascends x ds p.0) (all_without IsCanonical x ds p.1))
of_two fun.Union x y h k =
    and_then_holds (λ ds. IsAscending ds × AllCanonical ds) IsCanonical (λ ds. option_map (λ es. finite_set_of (union ds es)) (as_set y)) (as_set x) (set_members x h)
    (λ ds p. map_holds (λ es. IsAscending es × AllCanonical es) IsCanonical (λ es. finite_set_of (union ds es)) (as_set y) (set_members y k)
    (λ es q. made_set (union ds es) (union_ascends ds es q.0) (all_of_either IsCanonical ds es p.1 q.1)))
of_two fun.Remove x y h k =
    map_holds (λ es. IsAscending (keys_of es) × AllEntriesCanonical es) IsCanonical (λ es. finite_map_of (without_key y es)) (as_map x) (map_entries x h)
    (λ es p. made_map (without_key y es) (without_key_ascends y es p.0) (all_without_key IsCanonicalEntry y es p.1))
of_two fun.Defined x y h k = map_holds_any IsCanonical (λ es. truth (is_there (value_at y es))) (as_map x) (λ es. tt)
of_two _ x y h k = tt

of_three : (f : Function) (x y z : Data) → IsCanonical x → IsCanonical y → IsCanonical z → IfSome (call_three f x y z) IsCanonical
of_three fun.Update x y z h k l =
    map_holds (λ es. IsAscending (keys_of es) × AllEntriesCanonical es) IsCanonical (λ es. finite_map_of (with_entry y z es)) (as_map x) (map_entries x h)
    (λ es p. made_map (with_entry y z es) (with_entry_ascends y z es p.0) (all_with_entry IsCanonicalEntry y z es (k, l) p.1))
of_three _ x y z h k l = tt

-- a function of values
pub call_canonical : (f : Function) (ds : List Data) → AllCanonical ds → IfSome (call_value f ds) IsCanonical
call_canonical f [] h = tt
call_canonical f (x ∷ []) h = of_one f x h.0
call_canonical f (x ∷ y ∷ []) h = of_two f x y h.0 h.1.0
call_canonical f (x ∷ y ∷ z ∷ []) h = of_three f x y z h.0 h.1.0 h.1.1.0
call_canonical f (x ∷ y ∷ z ∷ u ∷ more) h = tt

-- a display
pub display_canonical : (form : DisplayForm) (s : PlainShape) (ds : List Data) → AllCanonical ds → IfSome (display_value form s ds) IsCanonical
display_canonical Braces (sequences s) ds h = items_all ds h
display_canonical Braces (sets s) ds h = made_set (set_of ds) (set_of_ascends ds) (all_of_list IsCanonical ds h)
display_canonical Braces (maps k v) [] h = (tt, tt)
display_canonical Brackets (tuples type names ss) ds h = test_holds IsCanonical (have_shapes ss (items_of ds)) (tuple (items_of ds)) (λ b. items_all ds h)
display_canonical _ _ _ h = tt

-- a field, and a tuple with another one
pub field_canonical : (s : PlainShape) (w : List ℕ) (d : Data) → IsCanonical d → IfSome (field_value s w d) IsCanonical
field_canonical (tuples type names ss) w (tuple ds) h = and_then_holds_any IsCanonical (slice_get (list_of ds)) (field_position w names) (λ i. one_of_all IsCanonical (list_of ds) i (all_items ds h))
field_canonical _ w _ h = tt

pub with_field_canonical : (s : PlainShape) (w : List ℕ) (v d : Data) → IsCanonical v → IsCanonical d → IfSome (with_field s w v d) IsCanonical
with_field_canonical (tuples type names ss) w v (tuple ds) h k =
    and_then_holds_any IsCanonical (replaced_part (list_of ds) v) (field_position w names)
    (λ i. map_holds_any IsCanonical (λ (old : Data). tuple (items_of (slice_set (list_of ds) i v))) (slice_get (list_of ds) i)
    (λ old. items_all (slice_set (list_of ds) i v) (all_replaced IsCanonical (list_of ds) i v h (all_items ds k))))
with_field_canonical _ w v _ h k = tt

-- a value that passes the check is the one that is meant
told_by : (b : Bool) (d v : Data) → (if b && true then Ok d else Err Range) ≡ Ok v → IsCanonical d → IsCanonical v
told_by true d v a h = let e : d ≡ v = cc in rw (← e) h
told_by false d v a h = absurd (cc)

-- what a call returns is canonical if what is meant is
told : (o : Option Data) (v : Data) → checked_result o ≡ Ok v → IfSome o IsCanonical → IsCanonical v
told None v a h = absurd (cc)
told (Some d) v a h = told_by (is_within d) d v a h

pub answer_canonical : (takes : Bool) (r : Result Data TermFault) (o : Option Data) → AnswersOrLacks takes r o → IfSome o IsCanonical → IfOk r IsCanonical
answer_canonical takes (Err e) o a h = tt
answer_canonical takes (Ok v) o a h = told o v a h
