-- How two lists of items compare, one item after another.
use Rattle.std.proofs.Common.{◌≡◌, ◌∙◌, ℕ, zero, suc, ◌+◌, ◌++◌, List, [], ◌∷◌, Option, Some, None, Bool, ◌&&◌, ◌||◌, cond, length, drop, true, false, refl, sym, ap, add-one, arith}
use Rattle.std.specs.Prelude.{slice_get}
use Rattle.std.specs.List.{position_from}
use Rattle.std.specs.Option.{IfSome, is_some}
use lib.Pointwise.{pointwise}
use Rattle.std.specs.Ordering.{is_eq, ordering_then}
use Rattle.std.specs.declared.cmp.Ordering.{Ordering}
use Rattle.std.specs.declared.cmp.Ordering.TheVariants.{Less, Equal, Greater}
use Rattle.ioa_values.specs.Data.{Data, items_of, entries_of}
use Rattle.ioa_values.specs.Collections.{is_member}
use Rattle.ioa_values.specs.DataOrder.{data_cmp, items_cmp, entries_cmp, same, then_equal, then_then}

-- an item and what is behind it
drop_next : {A : Type 0} (xs : List A) (i : ℕ) (x : A) → slice_get xs i ≡ Some x → drop i xs ≡ x ∷ drop (suc i) xs
drop_next [] i x h = absurd (cc)
drop_next (y ∷ xs) zero x h = let same : y ≡ x = cc in rw (← same) refl
drop_next (y ∷ xs) (suc i) x h = drop_next xs i x h

pub drop_from : {A : Type 0} (xs : List A) (i : ℕ) (x : A) → slice_get xs i ≡ Some x → drop i xs ≡ x ∷ drop (i + 1) xs
drop_from xs i x h = rw add-one (drop_next xs i x h)

left_out : (o r : Ordering) → o ≡ Equal → ordering_then o r ≡ r
left_out o r e = rw e refl

decided : (o r : Ordering) → (o ≡ Equal → ⊥) → ordering_then o r ≡ o
decided Less r h = refl
decided Equal r h = absurd (h refl)
decided Greater r h = refl

-- two equal items decide nothing
pub items_alike : (xs ys : List Data) (i : ℕ) (x y : Data) → slice_get xs i ≡ Some x → slice_get ys i ≡ Some y → data_cmp x y ≡ Equal →
    items_cmp (items_of (drop i xs)) (items_of (drop i ys)) ≡ items_cmp (items_of (drop (i + 1) xs)) (items_of (drop (i + 1) ys))
items_alike xs ys i x y h k e =
    rw (drop_from xs i x h, drop_from ys i y k) (left_out (data_cmp x y) (items_cmp (items_of (drop (i + 1) xs)) (items_of (drop (i + 1) ys))) e)

-- two others decide
pub items_apart : (xs ys : List Data) (i : ℕ) (x y : Data) → slice_get xs i ≡ Some x → slice_get ys i ≡ Some y → (data_cmp x y ≡ Equal → ⊥) →
    items_cmp (items_of (drop i xs)) (items_of (drop i ys)) ≡ data_cmp x y
items_apart xs ys i x y h k n =
    rw (drop_from xs i x h, drop_from ys i y k) (decided (data_cmp x y) (items_cmp (items_of (drop (i + 1) xs)) (items_of (drop (i + 1) ys))) n)

-- an item is the value, or one behind it may be
pub found_here : (d : Data) (xs : List Data) (i : ℕ) (x : Data) → slice_get xs i ≡ Some x → same d x ≡ true →
    position_from (same d) i (drop i xs) ≡ Some i
found_here d xs i x h e = rw (drop_from xs i x h, e) refl

pub found_later : (d : Data) (xs : List Data) (i : ℕ) (x : Data) → slice_get xs i ≡ Some x → same d x ≡ false →
    position_from (same d) i (drop i xs) ≡ position_from (same d) (i + 1) (drop (i + 1) xs)
found_later d xs i x h e = rw (drop_from xs i x h, e) refl

-- a value is among the items exactly if it has a position
member_from : (d : Data) (i : ℕ) (xs : List Data) → is_some (position_from (same d) i xs) ≡ is_member d xs
member_from d i [] = refl
member_from d i (x ∷ xs) = by_test (same d x) (member_from d (i + 1) xs)
  where
    by_test : (t : Bool) → is_some (position_from (same d) (i + 1) xs) ≡ is_member d xs →
        is_some (cond t (Some i) (position_from (same d) (i + 1) xs)) ≡ (t || is_member d xs)
    by_test true more = refl
    by_test false more = more

pub found_member : (d : Data) (xs : List Data) → is_some (position_from (same d) 0 xs) ≡ is_member d xs
found_member d xs = member_from d 0 xs

-- two lists are the same if the order finds them equal
both_equal : (o p : Ordering) → is_eq (ordering_then o p) ≡ (is_eq o && is_eq p)
both_equal Less p = refl
both_equal Equal p = refl
both_equal Greater p = refl

pub same_by_order : (xs ys : List Data) → pointwise same xs ys ≡ is_eq (items_cmp (items_of xs) (items_of ys))
same_by_order [] [] = refl
same_by_order [] (y ∷ ys) = refl
same_by_order (x ∷ xs) [] = refl
same_by_order (x ∷ xs) (y ∷ ys) = ap (λ (b : Bool). same x y && b) (same_by_order xs ys) ∙ sym (both_equal (data_cmp x y) (items_cmp (items_of xs) (items_of ys)))

-- lists in two parts, of which the first two are as long, compare part by part
pub parts_order : (xs ys more others : List Data) → length xs ≡ length ys →
    items_cmp (items_of (xs ++ more)) (items_of (ys ++ others)) ≡ ordering_then (items_cmp (items_of xs) (items_of ys)) (items_cmp (items_of more) (items_of others))
parts_order [] [] more others h = refl
parts_order [] (y ∷ ys) more others h = absurd (omega arith)
parts_order (x ∷ xs) [] more others h = absurd (omega arith)
parts_order (x ∷ xs) (y ∷ ys) more others h =
    ap (ordering_then (data_cmp x y)) (parts_order xs ys more others (omega arith))
    ∙ sym (then_then (data_cmp x y) (items_cmp (items_of xs) (items_of ys)) (items_cmp (items_of more) (items_of others)))

pub one_order : (x y : Data) → items_cmp (items_of (x ∷ [])) (items_of (y ∷ [])) ≡ data_cmp x y
one_order x y = then_equal (data_cmp x y)

-- if the first parts are as long, they decide if they are not alike, and else what is behind them does
pub told_behind : (told : Option Ordering) (xs ys more others : List Data) → length xs ≡ length ys → items_cmp (items_of xs) (items_of ys) ≡ Equal →
    IfSome told (λ o. o ≡ items_cmp (items_of more) (items_of others)) → IfSome told (λ o. o ≡ items_cmp (items_of (xs ++ more)) (items_of (ys ++ others)))
told_behind None xs ys more others h e t = tt
told_behind (Some o) xs ys more others h e t =
    t ∙ sym (parts_order xs ys more others h ∙ left_out (items_cmp (items_of xs) (items_of ys)) (items_cmp (items_of more) (items_of others)) e)

pub told_first : (o : Ordering) (xs ys more others : List Data) → length xs ≡ length ys → (o ≡ Equal → ⊥) → o ≡ items_cmp (items_of xs) (items_of ys) → o ≡ items_cmp (items_of (xs ++ more)) (items_of (ys ++ others))
told_first o xs ys more others h n t =
    t ∙ sym (parts_order xs ys more others h ∙ decided (items_cmp (items_of xs) (items_of ys)) (items_cmp (items_of more) (items_of others)) (λ e. n (t ∙ e)))

nothing_more : (b : Bool) → false ≡ (b && false)
nothing_more true = refl
nothing_more false = refl

-- two lists of which one is longer are not the same
pub lengths_differ : (xs ys : List Data) → (length xs ≡ length ys → ⊥) → false ≡ pointwise same xs ys
lengths_differ [] [] n = absurd (n refl)
lengths_differ [] (y ∷ ys) n = refl
lengths_differ (x ∷ xs) [] n = refl
lengths_differ (x ∷ xs) (y ∷ ys) n =
    nothing_more (same x y) ∙ ap (λ (b : Bool). same x y && b) (lengths_differ xs ys (λ e. n (ap suc e)))

-- the same of entries: two equal ones decide nothing, two keys that differ decide, and else two values that do
next_entries : (es fs : List (Data × Data)) (i : ℕ) (e f : Data × Data) → slice_get es i ≡ Some e → slice_get fs i ≡ Some f →
    entries_cmp (entries_of (drop i es)) (entries_of (drop i fs))
    ≡ ordering_then (data_cmp e.0 f.0) (ordering_then (data_cmp e.1 f.1) (entries_cmp (entries_of (drop (i + 1) es)) (entries_of (drop (i + 1) fs))))
next_entries es fs i e f h k = rw (drop_from es i e h, drop_from fs i f k) refl

pub entries_alike : (es fs : List (Data × Data)) (i : ℕ) (e f : Data × Data) → slice_get es i ≡ Some e → slice_get fs i ≡ Some f → data_cmp e.0 f.0 ≡ Equal → data_cmp e.1 f.1 ≡ Equal →
    entries_cmp (entries_of (drop i es)) (entries_of (drop i fs)) ≡ entries_cmp (entries_of (drop (i + 1) es)) (entries_of (drop (i + 1) fs))
entries_alike es fs i e f h k a b = next_entries es fs i e f h k ∙ left_out _ _ a ∙ left_out _ _ b

pub keys_apart : (es fs : List (Data × Data)) (i : ℕ) (e f : Data × Data) → slice_get es i ≡ Some e → slice_get fs i ≡ Some f → (data_cmp e.0 f.0 ≡ Equal → ⊥) →
    entries_cmp (entries_of (drop i es)) (entries_of (drop i fs)) ≡ data_cmp e.0 f.0
keys_apart es fs i e f h k n = next_entries es fs i e f h k ∙ decided _ _ n

pub values_apart : (es fs : List (Data × Data)) (i : ℕ) (e f : Data × Data) → slice_get es i ≡ Some e → slice_get fs i ≡ Some f → data_cmp e.0 f.0 ≡ Equal → (data_cmp e.1 f.1 ≡ Equal → ⊥) →
    entries_cmp (entries_of (drop i es)) (entries_of (drop i fs)) ≡ data_cmp e.1 f.1
values_apart es fs i e f h k a n = next_entries es fs i e f h k ∙ left_out _ _ a ∙ decided _ _ n
