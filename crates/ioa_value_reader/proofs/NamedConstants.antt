-- The constant of a name has that name, and if no two constants have one name, each is the constant of its name.
use Rattle.std.proofs.Common.{◌≡◌, ◌∙◌, ℕ, zero, suc, ◌<◌, Bool, true, false, List, [], ◌∷◌, Some, None, length, get_or, refl, ap, sym, arith, nat_lt}
use Rattle.std.specs.Prelude.{slice_get, nat_eq, cond}
use Rattle.std.specs.List.{AllByRecursion, IsDistinct, position_or_len}
use Rattle.std.proofs.lemmas.Bool.Decides.{nat_tests}
use Rattle.std.proofs.lemmas.List.Quantifiers.{position-Some}
use Rattle.std.proofs.lemmas.List.Sums.{position_or_len_is}
use Rattle.std.proofs.lemmas.Option.{slice_get-get_or, get_or_from_slice_get}
use Rattle.std.proofs.lemmas.Slice.Eq.{bytes_eq-Decides}
use lib.Pointwise.{pointwise}
use Rattle.ioa_value_reader.specs.Grammar.{constant_named}

abbrev same : List ℕ → List ℕ → Bool
same = pointwise nat_eq

pub named_is : (names : List (List ℕ)) (w : List ℕ) (k : ℕ) → constant_named names w ≡ Some k → slice_get names k ≡ Some w
named_is names w k e =
    let p = position-Some (same w) names k [] e in
    slice_get-get_or names k [] p.0 ∙ ap Some (sym ((bytes_eq-Decides w (get_or names k [])).0 p.1))

within : (names : List (List ℕ)) (k : ℕ) (w : List ℕ) → slice_get names k ≡ Some w → k < length names
within [] k w e = absurd cc
within (n ∷ ns) zero w e = omega arith
within (n ∷ ns) (suc k) w e = let h = within ns k w e in omega arith

at_place : (P : List ℕ → Type 0) (names : List (List ℕ)) (k : ℕ) (w : List ℕ) → AllByRecursion P names → slice_get names k ≡ Some w → P w
at_place P [] k w h e = absurd cc
at_place P (n ∷ ns) zero w h e = let is : n ≡ w = cc in rw is at h.0
at_place P (n ∷ ns) (suc k) w h e = at_place P ns k w h.1 e

unlike : (v w : List ℕ) (b : Bool) → same v w ≡ b → same w v ≡ false → b ≡ false
unlike v w true e f = let is = (bytes_eq-Decides v w).0 e in let back = (bytes_eq-Decides w v).1 (sym is) in absurd cc
unlike v w false e f = refl

unlike_before : (names : List (List ℕ)) (k : ℕ) (w : List ℕ) → IsDistinct same names → slice_get names k ≡ Some w → (j : ℕ) → j < k → same w (get_or names j []) ≡ false
unfolding IsDistinct
unlike_before [] k w d e j h = absurd cc
unlike_before (n ∷ ns) zero w d e j h = absurd (omega arith)
unlike_before (n ∷ ns) (suc k) w d e zero h = unlike w n (same w n) refl (at_place (λ v. same n v ≡ false) ns k w d.0 e)
unlike_before (n ∷ ns) (suc k) w d e (suc j) h = unlike_before ns k w d.1 e j (omega arith)

placed : (m k l : ℕ) → m ≡ k → k < l → cond (nat_lt m l) (Some m) None ≡ Some k
placed m k l e h = grind (arith, nat_tests)

pub named_once : (names : List (List ℕ)) (w : List ℕ) (k : ℕ) → IsDistinct same names → slice_get names k ≡ Some w → constant_named names w ≡ Some k
named_once names w k d e =
    let l = within names k w e in
    let is = get_or_from_slice_get names k w [] e in
    placed (position_or_len (same w) names) k (length names)
    (position_or_len_is (same w) names k [] (omega arith) (unlike_before names k w d e) (λ _. (bytes_eq-Decides w (get_or names k [])).1 (sym is))) l
