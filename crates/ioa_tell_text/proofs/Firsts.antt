-- The first of a list that passes, and the others.
use Rattle.std.proofs.Common.{◌≡◌, inl, inr, ℕ, ◌+◌, ◌<◌, ◌≤◌, Bool, true, false, cond, List, ◌++◌, Some, None, refl, sym, ap, ◌∙◌, length, get_or, take, drop, remove, arith, suc}
use Rattle.std.specs.Prelude.{nat_lt, find, position, slice_get}
use Rattle.std.specs.List.{position_or_len}
use Rattle.std.proofs.lemmas.List.{append-nil, take_all, drop_all}
use Rattle.std.proofs.lemmas.List.Folds.{find_at}
use Rattle.std.proofs.lemmas.List.Quantifiers.{position-Some}
use Rattle.std.proofs.lemmas.Option.{slice_get_read, slice_get_cases}
use Rattle.std.proofs.lemmas.Bool.Decides.{nat_tests}
use Rattle.ioa_tell_text.specs.Kept.{without}

module _ {X : Type 0} (p : X → Bool) (xs : List X) where
  -- the first that passes stands where it is found
  place : (i : ℕ) → position p xs ≡ Some i → i ≡ position_or_len p xs
  place i h = by_test (nat_lt (position_or_len p xs) (length xs)) h
    where
      by_test : (b : Bool) → cond b (Some (position_or_len p xs)) None ≡ Some i → i ≡ position_or_len p xs
      by_test true h = cc
      by_test false h = absurd (cc)

  pub found_at : (i : ℕ) (x : X) → position p xs ≡ Some i → x ≡ get_or xs i x → Some x ≡ find p xs
  found_at i x h is =
      let within : i < length xs = (position-Some p xs i x h).0 in
      sym (find_at p xs ∙ ap (λ (k : ℕ). slice_get xs k) (sym (place i h)) ∙ slice_get_read xs (length xs) i x refl within is)

  pub others_at : (i : ℕ) → position p xs ≡ Some i → remove xs i ≡ without p xs
  others_at i h = let one : suc i ≡ position_or_len p xs + 1 = omega (arith, place i h) in λ j. take (place i h j) xs ++ drop (one j) xs

  -- none passes
  past : position p xs ≡ None → length xs ≤ position_or_len p xs
  past h = by_test (nat_lt (position_or_len p xs) (length xs)) refl h
    where
      by_test : (b : Bool) → nat_lt (position_or_len p xs) (length xs) ≡ b → cond b (Some (position_or_len p xs)) None ≡ None → length xs ≤ position_or_len p xs
      by_test true e h = absurd (cc)
      by_test false e h = grind (arith, nat_tests)

  pub none_found : position p xs ≡ None → None ≡ find p xs
  none_found h = elim (slice_get_cases xs (position_or_len p xs)).1 [
    | inl c ↦ absurd (omega (arith, c.1, past h))
    | inr c ↦ sym (find_at p xs ∙ c.1)
  ]

  pub all_stay : position p xs ≡ None → xs ≡ without p xs
  all_stay h =
      let far : length xs ≤ position_or_len p xs = past h in
      let further : length xs ≤ position_or_len p xs + 1 = omega arith in
      sym (rw (take_all (position_or_len p xs) xs far, drop_all (position_or_len p xs + 1) xs further) (append-nil xs))
