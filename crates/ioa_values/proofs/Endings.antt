-- Two lists of which one begins with the other: their lengths decide between them.
use Rattle.std.proofs.Common.{◌≡◌, ◌∙◌, ℕ, zero, suc, min, List, [], ◌∷◌, length, drop, sym, arith}
use Rattle.std.specs.declared.cmp.Ordering.{Ordering}
use Rattle.std.specs.declared.cmp.Ordering.TheVariants.{Less, Equal, Greater}
use Rattle.std.specs.Ordering.{nat_cmp}
use Rattle.std.specs.Cmp.{nat_cmp_is}
use Rattle.std.proofs.lemmas.Bool.Decides.{nat_tests}

next_lengths : (m n : ℕ) → nat_cmp (suc m) (suc n) ≡ nat_cmp m n
next_lengths m n = grind (arith, nat_tests)

module _ {A : Type 0} (R : List A → List A → Ordering) (both : R [] [] ≡ Equal) (first : (y : A) (ys : List A) → R [] (y ∷ ys) ≡ Less) (second : (x : A) (xs : List A) → R (x ∷ xs) [] ≡ Greater) where
  -- at the end of the shorter list
  pub ended : (xs ys : List A) (i : ℕ) → i ≡ min (length xs) (length ys) → nat_cmp (length xs) (length ys) ≡ R (drop i xs) (drop i ys)
  ended [] [] zero e = sym both
  ended [] [] (suc i) e = absurd (omega arith)
  ended [] (y ∷ ys) zero e = sym (nat_cmp_is 0 (suc (length ys)) Less (omega arith)) ∙ sym (first y ys)
  ended [] (y ∷ ys) (suc i) e = absurd (omega arith)
  ended (x ∷ xs) [] zero e = sym (nat_cmp_is (suc (length xs)) 0 Greater (omega arith)) ∙ sym (second x xs)
  ended (x ∷ xs) [] (suc i) e = absurd (omega arith)
  ended (x ∷ xs) (y ∷ ys) zero e = absurd (omega arith)
  ended (x ∷ xs) (y ∷ ys) (suc i) e = next_lengths (length xs) (length ys) ∙ ended xs ys i (omega arith)
