-- A list that is compared, item by item, with two lists in one.
use Rattle.std.proofs.Common.{◌≡◌, ◌∙◌, ◌≤◌, Bool, ◌&&◌, List, [], ◌∷◌, ◌++◌, length, take, drop, refl, ap, arith}
use Rattle.std.proofs.Math.Bool.{and_assoc}
use lib.Pointwise.{pointwise}

module _ {A B : Type 0} (E : A → B → Bool) where
  -- its first items are compared with the one list, and those behind them with the other
  pub compared_in_halves : (xs : List A) (ys zs : List B) → length ys ≤ length xs →
      (pointwise E (take (length ys) xs) ys && pointwise E (drop (length ys) xs) zs) ≡ pointwise E xs (ys ++ zs)
  compared_in_halves xs [] zs h = refl
  compared_in_halves [] (y ∷ ys) zs h = absurd (omega arith)
  compared_in_halves (x ∷ xs) (y ∷ ys) zs h =
      and_assoc (E x y) (pointwise E (take (length ys) xs) ys) (pointwise E (drop (length ys) xs) zs)
      ∙ ap (λ (t : Bool). E x y && t) (compared_in_halves xs ys zs (omega arith))
