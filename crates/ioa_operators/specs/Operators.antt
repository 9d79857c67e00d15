-- What the operators and functions of the language mean between values (profile). A part of another kind than the
-- operator or function takes gives no value; items, members, keys and the sides of `=` may be of any kind.
use Rattle.std.specs.Prelude.{ℕ, ℤ, pos, ◌+ℤ◌, ◌-ℤ◌, ◌*ℤ◌, neg_ℤ, int_lt, int_le, nat_eq}
use Rattle.std.specs.Prelude.{Bool, true, false, ◌&&◌, ◌||◌, not, if◌then◌else◌}
use Rattle.std.specs.Prelude.{List, [], ◌∷◌, ◌++◌, Option, Some, None, length, codes}
use Rattle.std.specs.Int.{int_div_euclid, int_rem_euclid}
use Rattle.std.specs.Option.{option_and_then, option_map}
use lib.Pointwise.{pointwise}
use Rattle.ioa_values.specs.Data.{Data, number, truth, constant, tuple, sequence, finite_set, finite_map}
use Rattle.ioa_values.specs.Data.{items_of, list_of, entries_of, pairs_of, as_number, as_truth}
use Rattle.ioa_values.specs.DataOrder.{same}
use Rattle.ioa_values.specs.Collections.{is_member, with_member, without_member, union}
use Rattle.ioa_values.specs.Collections.{value_at, with_entry, without_key}
use Rattle.ioa_operators.specs.declared.operator.UnaryOperator.{UnaryOperator}
use Rattle.ioa_operators.specs.declared.operator.UnaryOperator.TheVariants as one
use Rattle.ioa_operators.specs.declared.operator.BinaryOperator.{BinaryOperator}
use Rattle.ioa_operators.specs.declared.operator.BinaryOperator.TheVariants as two
use Rattle.ioa_operators.specs.declared.operator.Function.{Function}
use Rattle.ioa_operators.specs.declared.operator.Function.TheVariants as fun

-- the items of a tuple, of a sequence and of a set, and the entries of a map
abbrev pub as_tuple : Data → Option (List Data)
as_tuple (number z) = None
as_tuple (truth b) = None
as_tuple (constant k) = None
as_tuple (tuple ds) = Some (list_of ds)
as_tuple (sequence ds) = None
as_tuple (finite_set ds) = None
as_tuple (finite_map es) = None

abbrev pub as_sequence : Data → Option (List Data)
as_sequence (number z) = None
as_sequence (truth b) = None
as_sequence (constant k) = None
as_sequence (tuple ds) = None
as_sequence (sequence ds) = Some (list_of ds)
as_sequence (finite_set ds) = None
as_sequence (finite_map es) = None

abbrev pub as_set : Data → Option (List Data)
as_set (number z) = None
as_set (truth b) = None
as_set (constant k) = None
as_set (tuple ds) = None
as_set (sequence ds) = None
as_set (finite_set ds) = Some (list_of ds)
as_set (finite_map es) = None

abbrev pub as_map : Data → Option (List (Data × Data))
as_map (number z) = None
as_map (truth b) = None
as_map (constant k) = None
as_map (tuple ds) = None
as_map (sequence ds) = None
as_map (finite_set ds) = None
as_map (finite_map es) = Some (pairs_of es)

-- a sequence, a set and a map of lists
abbrev pub sequence_of : List Data → Data
sequence_of ds = sequence (items_of ds)

abbrev pub finite_set_of : List Data → Data
finite_set_of ds = finite_set (items_of ds)

abbrev pub finite_map_of : List (Data × Data) → Data
finite_map_of es = finite_map (entries_of es)

-- what two values of the same form give
abbrev pub on_numbers : (ℤ → ℤ → Data) → Data → Data → Option Data
on_numbers f x y = option_and_then (λ m. option_map (f m) (as_number y)) (as_number x)

abbrev pub on_truths : (Bool → Bool → Bool) → Data → Data → Option Data
on_truths f x y = option_and_then (λ a. option_map (λ b. truth (f a b)) (as_truth y)) (as_truth x)

-- whether two truth values are the same
abbrev pub same_truth : Bool → Bool → Bool
same_truth true b = b
same_truth false b = not b

-- `~` and `-` before a term
abbrev pub unary_value : UnaryOperator → Data → Option Data
unary_value one.Not x = option_map (λ b. truth (not b)) (as_truth x)
unary_value one.Negative x = option_map (λ m. number (neg_ℤ m)) (as_number x)

-- the value that the left side of `/\`, `\/` and `=>` decides alone
abbrev pub left_decision : BinaryOperator → Data → Option Data
left_decision two.And (truth false) = Some (truth false)
left_decision two.Or (truth true) = Some (truth true)
left_decision two.Implies (truth false) = Some (truth true)
left_decision _ _ = None

-- whether a value is an item of a sequence or a member of a set
abbrev pub has_member : Data → Data → Option Data
has_member d (number z) = None
has_member d (truth b) = None
has_member d (constant k) = None
has_member d (tuple ds) = None
has_member d (sequence ds) = Some (truth (is_member d (list_of ds)))
has_member d (finite_set ds) = Some (truth (is_member d (list_of ds)))
has_member d (finite_map es) = None

-- an operator between two values
abbrev pub binary_value : BinaryOperator → Data → Data → Option Data
binary_value two.Equivalent x y = on_truths same_truth x y
binary_value two.Implies x y = on_truths (λ a b. not a || b) x y
binary_value two.Or x y = on_truths (λ a b. a || b) x y
binary_value two.And x y = on_truths (λ a b. a && b) x y
binary_value two.Equal x y = Some (truth (same x y))
binary_value two.NotEqual x y = Some (truth (not (same x y)))
binary_value two.Less x y = on_numbers (λ m n. truth (int_lt m n)) x y
binary_value two.AtMost x y = on_numbers (λ m n. truth (int_le m n)) x y
binary_value two.Greater x y = on_numbers (λ m n. truth (int_lt n m)) x y
binary_value two.AtLeast x y = on_numbers (λ m n. truth (int_le n m)) x y
binary_value two.Member x y = has_member x y
binary_value two.Prepend x y = option_map (λ ds. sequence_of (x ∷ ds)) (as_sequence y)
binary_value two.Append x y = option_map (λ ds. sequence_of (ds ++ y ∷ [])) (as_sequence x)
binary_value two.Concatenate x y =
    option_and_then (λ ds. option_map (λ es. sequence_of (ds ++ es)) (as_sequence y)) (as_sequence x)
binary_value two.Plus x y = on_numbers (λ m n. number (m +ℤ n)) x y
binary_value two.Minus x y = on_numbers (λ m n. number (m -ℤ n)) x y
binary_value two.Times x y = on_numbers (λ m n. number (m *ℤ n)) x y
binary_value two.At x y = option_and_then (value_at y) (as_map x)

-- whether an operator between two values asks for memory beyond that of the values
abbrev pub operator_takes_memory : BinaryOperator → Bool
operator_takes_memory two.Prepend = true
operator_takes_memory two.Append = true
operator_takes_memory two.Concatenate = true
operator_takes_memory two.At = true
operator_takes_memory _ = false

-- the quotient rounded down, or what it leaves, if the divisor is at least 1
abbrev pub division_value : (ℤ → ℤ → ℤ) → ℤ → ℤ → Option Data
division_value f m n = if int_le (pos 1) n then Some (number (f m n)) else None

abbrev pub on_division : (ℤ → ℤ → ℤ) → Data → Data → Option Data
on_division f x y = option_and_then (λ m. option_and_then (division_value f m) (as_number y)) (as_number x)

-- the first item and the rest of a sequence that is not empty
abbrev pub first : List Data → Option Data
first [] = None
first (d ∷ ds) = Some d

abbrev pub rest : List Data → Option Data
rest [] = None
rest (d ∷ ds) = Some (sequence_of ds)

-- how many there are
abbrev pub count : {X : Type 0} → List X → Data
count xs = number (pos (length xs))

-- the number of members of a set or of keys of a map
abbrev pub size_value : Data → Option Data
size_value (number z) = None
size_value (truth b) = None
size_value (constant k) = None
size_value (tuple ds) = None
size_value (sequence ds) = None
size_value (finite_set ds) = Some (count (list_of ds))
size_value (finite_map es) = Some (count (pairs_of es))

-- a function of one value
abbrev pub call_one : Function → Data → Option Data
call_one fun.Head x = option_and_then first (as_sequence x)
call_one fun.Tail x = option_and_then rest (as_sequence x)
call_one fun.Length x = option_map count (as_sequence x)
call_one fun.Size x = size_value x
call_one _ _ = None

-- whether there is a value
abbrev pub is_there : Option Data → Bool
is_there None = false
is_there (Some d) = true

-- a function of two values
abbrev pub call_two : Function → Data → Data → Option Data
call_two fun.Quotient x y = on_division int_div_euclid x y
call_two fun.Remainder x y = on_division int_rem_euclid x y
call_two fun.Insert x y = option_map (λ ds. finite_set_of (with_member x ds)) (as_set y)
call_two fun.Delete x y = option_map (λ ds. finite_set_of (without_member x ds)) (as_set y)
call_two fun.Union x y = option_and_then (λ ds. option_map (λ es. finite_set_of (union ds es)) (as_set y)) (as_set x)
call_two fun.Remove x y = option_map (λ es. finite_map_of (without_key y es)) (as_map x)
call_two fun.Defined x y = option_map (λ es. truth (is_there (value_at y es))) (as_map x)
call_two _ _ _ = None

-- a function of three values
abbrev pub call_three : Function → Data → Data → Data → Option Data
call_three fun.Update x y z = option_map (λ es. finite_map_of (with_entry y z es)) (as_map x)
call_three _ _ _ _ = None

-- a function of values
abbrev pub call_value : Function → List Data → Option Data
call_value f [] = None
call_value f (x ∷ []) = call_one f x
call_value f (x ∷ y ∷ []) = call_two f x y
call_value f (x ∷ y ∷ z ∷ []) = call_three f x y z
call_value f (x ∷ y ∷ z ∷ u ∷ more) = None

-- whether a function asks for memory beyond that of its parts
abbrev pub call_takes_memory : Function → Bool
call_takes_memory fun.Head = true
call_takes_memory fun.Tail = true
call_takes_memory fun.Insert = true
call_takes_memory fun.Delete = true
call_takes_memory fun.Union = true
call_takes_memory fun.Update = true
call_takes_memory fun.Remove = true
call_takes_memory _ = false

-- the function of a name
abbrev pub function_named : List ℕ → Option Function
function_named w =
    if pointwise nat_eq w (codes "head") then Some fun.Head else
    if pointwise nat_eq w (codes "tail") then Some fun.Tail else
    if pointwise nat_eq w (codes "len") then Some fun.Length else
    if pointwise nat_eq w (codes "size") then Some fun.Size else
    if pointwise nat_eq w (codes "div") then Some fun.Quotient else
    if pointwise nat_eq w (codes "mod") then Some fun.Remainder else
    if pointwise nat_eq w (codes "insert") then Some fun.Insert else
    if pointwise nat_eq w (codes "delete") then Some fun.Delete else
    if pointwise nat_eq w (codes "union") then Some fun.Union else
    if pointwise nat_eq w (codes "update") then Some fun.Update else
    if pointwise nat_eq w (codes "remove") then Some fun.Remove else
    if pointwise nat_eq w (codes "defined") then Some fun.Defined else None
