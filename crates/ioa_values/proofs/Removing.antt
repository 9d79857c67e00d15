-- Items without the one at a position.
use Rattle.std.proofs.Common.{◌≡◌, ◌∙◌, ℕ, zero, suc, ◌-◌, ◌<◌, ◌≤◌, List, [], ◌∷◌, ◌++◌, refl, ap, arith, length}
use native.Mathlib.Numerals.{unary_clauses}
use Rattle.std.specs.List.{remove, AllByRecursion}
use Rattle.ioa_values.specs.Data.{Data}
use Rattle.ioa_values.specs.ItemLists.{AreSequenceItems}

-- of two lists, one behind the other, the one that has the position loses the item
pub remove_left : (xs ys : List Data) (i : ℕ) → i < length xs → remove (xs ++ ys) i ≡ remove xs i ++ ys
remove_left [] ys i h = absurd (omega arith)
remove_left (x ∷ xs) ys zero h = refl
remove_left (x ∷ xs) ys (suc i) h = ap (λ (zs : List Data). x ∷ zs) (remove_left xs ys i (omega arith))

pub remove_right : (xs ys : List Data) (i : ℕ) → length xs ≤ i → remove (xs ++ ys) i ≡ xs ++ remove ys (i - length xs)
remove_right [] ys i h = simp unary_clauses refl
remove_right (x ∷ xs) ys zero h = absurd (omega arith)
remove_right (x ∷ xs) ys (suc i) h =
    simp unary_clauses (ap (λ (zs : List Data). x ∷ zs) (remove_right xs ys i (omega arith)))

nothing_behind : (xs : List Data) → xs ++ [] ≡ xs
nothing_behind [] = refl
nothing_behind (x ∷ xs) = ap (λ (zs : List Data). x ∷ zs) (nothing_behind xs)

-- the only item of the second list is removed
pub remove_only : (xs ys : List Data) (i : ℕ) → length xs ≤ i → remove ys (i - length xs) ≡ [] → remove (xs ++ ys) i ≡ xs
remove_only xs ys i h e = remove_right xs ys i h ∙ ap (λ (zs : List Data). xs ++ zs) e ∙ nothing_behind xs

pub ruleset removing_rules = (remove_left, remove_right, remove_only)

-- fewer items are items of a sequence too
fewer : (xs : List Data) (i : ℕ) → length (remove xs i) ≤ length xs
fewer [] zero = omega arith
fewer [] (suc i) = omega arith
fewer (x ∷ xs) zero = omega arith
fewer (x ∷ xs) (suc i) = omega (arith, fewer xs i)

all_but : (P : Data → Type 0) (xs : List Data) (i : ℕ) → AllByRecursion P xs → AllByRecursion P (remove xs i)
all_but P [] zero h = tt
all_but P [] (suc i) h = tt
all_but P (x ∷ xs) zero h = h.1
all_but P (x ∷ xs) (suc i) h = (h.0, all_but P xs i h.1)

items_but_one : (xs : List Data) (i : ℕ) → AreSequenceItems xs → AreSequenceItems (remove xs i)
items_but_one xs i h = record {
  within = omega (arith, fewer xs i, h.within);
  canonical = all_but _ xs i h.canonical;
}

-- and so they are if the first of two parts loses an item, or the second
pub first_loses : (xs ys zs others : List Data) (i : ℕ) → i < length xs → zs ≡ remove xs i → others ≡ ys →
    AreSequenceItems (xs ++ ys) → AreSequenceItems (zs ++ others)
first_loses xs ys zs others i h e same all = rw (e, same, ← remove_left xs ys i h) (items_but_one (xs ++ ys) i all)

pub second_loses : (xs ys zs others : List Data) (i : ℕ) → length xs ≤ i → zs ≡ remove ys (i - length xs) → others ≡ xs →
    AreSequenceItems (xs ++ ys) → AreSequenceItems (others ++ zs)
second_loses xs ys zs others i h e same all =
    rw (e, same, ← remove_right xs ys i h) (items_but_one (xs ++ ys) i all)
