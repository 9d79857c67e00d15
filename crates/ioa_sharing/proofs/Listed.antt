-- What stands at a place of a list that only grows.
use Rattle.std.proofs.Common.{◌≡◌, ℕ, zero, suc, ◌+◌, List, [], ◌∷◌, ◌++◌, Some, refl, sym, ◌∙◌, subst, length}
use Rattle.std.proofs.Common.{slice_get, arith}
use mathlib.Core.List.{IsPrefix}

module _ {X : Type 0} where
  -- what is put behind the others stands at the place whose number is their count
  pub last_listed : (xs : List X) (x : X) → slice_get (xs ++ x ∷ []) (length xs) ≡ Some x
  last_listed [] x = refl
  last_listed (y ∷ xs) x = last_listed xs x

  -- which is one more then
  pub one_longer : (xs : List X) (x : X) → length (xs ++ x ∷ []) ≡ length xs + 1
  one_longer [] x = refl
  one_longer (y ∷ xs) x = let more : length (xs ++ x ∷ []) ≡ length xs + 1 = one_longer xs x in omega (arith, more)

  kept : (xs ys : List X) (k : ℕ) (x : X) → slice_get xs k ≡ Some x → slice_get (xs ++ ys) k ≡ Some x
  kept [] ys k x e = absurd (cc)
  kept (y ∷ xs) ys zero x e = e
  kept (y ∷ xs) ys (suc k) x e = kept xs ys k x e

  -- a place keeps what stands there
  pub still_listed : (xs all : List X) (k : ℕ) (x : X) → IsPrefix xs all → slice_get xs k ≡ Some x
      → slice_get all k ≡ Some x
  still_listed xs all k x grown e =
      subst (λ (l : List X). slice_get l k ≡ Some x) grown.1 (kept xs grown.0 k x e)

  -- two states of one list have one value at a place
  pub one_listed : (xs ys all : List X) (k : ℕ) (x y : X) → IsPrefix xs all → IsPrefix ys all
      → slice_get xs k ≡ Some x → slice_get ys k ≡ Some y → x ≡ y
  one_listed xs ys all k x y first second at at' =
      let one : slice_get all k ≡ Some x = still_listed xs all k x first at in
      let other : slice_get all k ≡ Some y = still_listed ys all k y second at' in
      let same : Some x ≡ Some y = sym one ∙ other in cc
