-- Two lists item by item: at the end of the shorter list the lengths decide.
use Rattle.std.proofs.Common.{◌≡◌, ◌∙◌, ℕ, zero, suc, ◌==◌, Bool, true, false, min, List, [], ◌∷◌, length, drop, sym, arith}
use Rattle.std.proofs.lemmas.Bool.Decides.{nat_tests}

same_next : (m n : ℕ) → (suc m == suc n) ≡ (m == n)
same_next m n = grind (arith, nat_tests)

module _ {A B : Type 0} (R : List A → List B → Bool) (both : R [] [] ≡ true) (first : (y : B) (ys : List B) → R [] (y ∷ ys) ≡ false) (second : (x : A) (xs : List A) → R (x ∷ xs) [] ≡ false) where
  pub same_ended : (xs : List A) (ys : List B) (i : ℕ) → i ≡ min (length xs) (length ys) → (length xs == length ys) ≡ R (drop i xs) (drop i ys)
  same_ended [] [] zero e = sym both
  same_ended [] [] (suc i) e = absurd (omega arith)
  same_ended [] (y ∷ ys) zero e =
      let longer : (0 == suc (length ys)) ≡ false = grind (arith, nat_tests) in
      longer ∙ sym (first y ys)
  same_ended [] (y ∷ ys) (suc i) e = absurd (omega arith)
  same_ended (x ∷ xs) [] zero e =
      let longer : (suc (length xs) == 0) ≡ false = grind (arith, nat_tests) in
      longer ∙ sym (second x xs)
  same_ended (x ∷ xs) [] (suc i) e = absurd (omega arith)
  same_ended (x ∷ xs) (y ∷ ys) zero e = absurd (omega arith)
  same_ended (x ∷ xs) (y ∷ ys) (suc i) e = same_next (length xs) (length ys) ∙ same_ended xs ys i (omega arith)
