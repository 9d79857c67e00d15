-- What is at an index of a list.
use Rattle.std.proofs.Common.{◌≡◌, ◌≢◌, ◌<◌, ℕ, suc, zero, List, [], ◌∷◌, Some, None, length, set, replicate, refl, subst, arith}
use Rattle.std.specs.List.{slice_get}

module _ {X : Type 0} where
  -- one thing
  pub same_place : (xs : List X) (i k : ℕ) (x y : X) → i ≡ k → slice_get xs i ≡ Some x → slice_get xs k ≡ Some y → y ≡ x
  same_place xs i k x y same at there =
      let moved : slice_get xs k ≡ Some x = subst (λ j. slice_get xs j ≡ Some x) same at in
      cc

  -- something, if it is within the list
  pub no_place : (xs : List X) (k : ℕ) → k < length xs → slice_get xs k ≡ None → ⊥
  no_place [] k within h = omega arith
  no_place (x ∷ xs) zero within h = cc
  no_place (x ∷ xs) (suc k) within h = no_place xs k (omega arith) h

  -- what was written there
  pub slice_get-set_same : (xs : List X) (i : ℕ) (x : X) → i < length xs → slice_get (set xs i x) i ≡ Some x
  slice_get-set_same [] i x h = absurd (omega arith)
  slice_get-set_same (y ∷ ys) zero x h = refl
  slice_get-set_same (y ∷ ys) (suc i) x h = slice_get-set_same ys i x (omega arith)

  -- what was there, if something was written elsewhere
  pub slice_get-set_other : (xs : List X) (i k : ℕ) (x : X) → i ≢ k → slice_get (set xs i x) k ≡ slice_get xs k
  slice_get-set_other [] i k x differ = refl
  slice_get-set_other (y ∷ ys) zero zero x differ = absurd (differ refl)
  slice_get-set_other (y ∷ ys) zero (suc k) x differ = refl
  slice_get-set_other (y ∷ ys) (suc i) zero x differ = refl
  slice_get-set_other (y ∷ ys) (suc i) (suc k) x differ = slice_get-set_other ys i k x (λ same. differ (cc))

  -- the same at each index of copies
  pub slice_get-replicate : (n i : ℕ) (x : X) → i < n → slice_get (replicate n x) i ≡ Some x
  slice_get-replicate zero i x h = absurd (omega arith)
  slice_get-replicate (suc n) zero x h = refl
  slice_get-replicate (suc n) (suc i) x h = slice_get-replicate n i x (omega arith)
