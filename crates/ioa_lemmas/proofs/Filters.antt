-- How many items of a list pass a test.
use Rattle.std.proofs.Common.{◌≡◌, ◌+◌, ◌<◌, ℕ, Bool, true, false, ◌||◌, List, [], ◌∷◌, take, drop, length}
use Rattle.std.proofs.Common.{refl, sym, ap, ◌∙◌, arith}
use Rattle.std.specs.Prelude.{cond, filter}
use Rattle.std.specs.List.{list_any}
use Rattle.std.proofs.lemmas.List.{length-append, take-append-drop}
use Rattle.std.proofs.lemmas.List.Elements.{filter-append}

module _ {A : Type 0} (p : A → Bool) where
  -- those among the first n, and those behind them
  pub length-filter-split : (n : ℕ) (xs : List A) →
      length (filter p xs) ≡ length (filter p (take n xs)) + length (filter p (drop n xs))
  length-filter-split n xs =
      ap (λ (l : List A). length (filter p l)) (sym (take-append-drop n xs))
      ∙ ap length (filter-append p (take n xs) (drop n xs))
      ∙ length-append (filter p (take n xs)) (filter p (drop n xs))

  -- none, if there is none that passes
  pub length-filter-none : (xs : List A) → list_any p xs ≡ false → length (filter p xs) ≡ 0
  length-filter-none [] h = refl
  length-filter-none (x ∷ xs) h = by_test (p x) h (length-filter-none xs)
    where
      by_test : (t : Bool) → (t || list_any p xs) ≡ false → (list_any p xs ≡ false → length (filter p xs) ≡ 0) →
          length (cond t (x ∷ filter p xs) (filter p xs)) ≡ 0
      by_test true h further = absurd (cc)
      by_test false h further = further h

  -- at least one, if there is one that passes
  pub length-filter-some : (xs : List A) → list_any p xs ≡ true → 0 < length (filter p xs)
  length-filter-some [] h = absurd (cc)
  length-filter-some (x ∷ xs) h = by_test (p x) h (length-filter-some xs)
    where
      by_test : (t : Bool) → (t || list_any p xs) ≡ true → (list_any p xs ≡ true → 0 < length (filter p xs)) →
          0 < length (cond t (x ∷ filter p xs) (filter p xs))
      by_test true h further = omega arith
      by_test false h further = further h
