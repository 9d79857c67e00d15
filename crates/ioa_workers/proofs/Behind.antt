-- One more item stands behind others.
use Rattle.std.proofs.Common.{◌≡◌, ℕ, zero, suc, ◌<◌, List, [], ◌∷◌, ◌++◌, length, Some, arith, refl}
use Rattle.std.specs.List.{slice_get}

-- there it is
pub last : {A : Type 0} (xs : List A) (x : A) → slice_get (xs ++ x ∷ []) (length xs) ≡ Some x
last [] x = refl
last (y ∷ ys) x = last ys x

-- and the others stand where they stood
pub before : {A : Type 0} (xs : List A) (x : A) (k : ℕ) → k < length xs → slice_get (xs ++ x ∷ []) k ≡ slice_get xs k
before [] x k h = absurd (omega arith)
before (y ∷ ys) x zero h = refl
before (y ∷ ys) x (suc k) h = before ys x k (omega arith)
