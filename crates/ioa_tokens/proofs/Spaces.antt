-- Spaces that are written one by one.
use Rattle.std.proofs.Common.{◌≡◌, ℕ, zero, suc, ◌+◌, List, ◌∷◌, ◌++◌, codes, refl, ap, sym, ◌∙◌, append_assoc, add-one}
use Rattle.std.specs.List.{repeat}

-- one more space
spaces_next : (count : ℕ) → repeat count (codes " ") ++ codes " " ≡ repeat (suc count) (codes " ")
spaces_next zero = refl
spaces_next (suc count) = ap (λ (l : List ℕ). 32 ∷ l) (spaces_next count)

-- the same behind a text
pub spaces_more : (before now after : List ℕ) (count : ℕ) → now ≡ before ++ repeat count (codes " ") → after ≡ now ++ codes " " → after ≡ before ++ repeat (count + 1) (codes " ")
spaces_more before now after count so one =
    one ∙ ap (λ (l : List ℕ). l ++ codes " ") so ∙ append_assoc before (repeat count (codes " ")) (codes " ")
    ∙ ap (λ (l : List ℕ). before ++ l) (spaces_next count ∙ ap (λ n. repeat n (codes " ")) (sym (add-one count)))
