-- Items that were tested one after another differ from each other.
use Rattle.std.proofs.Common.{◌≡◌, Bool, true, false, not, List, [], ◌∷◌, ◌++◌, refl}
use Rattle.std.specs.List.{AllByRecursion, IsDistinct, list_any}
use Rattle.std.proofs.lemmas.Bool.{and_parts, or_parts, or_from}
use Rattle.ioa_sections.specs.Distinct.{differ_from}

not_true : (b : Bool) → not b ≡ true → b ≡ false
not_true true h = absurd (cc)
not_true false h = refl

module _ {A : Type 0} (same : A → A → Bool) where
  -- no item is the same as one before
  abbrev pub AreNew : List A → List A → Type 0
  AreNew before xs = AllByRecursion (λ x. list_any (λ d. same d x) before ≡ false) xs

  last_apart : (test : A → Bool) (before : List A) (x : A) → list_any test (before ++ x ∷ []) ≡ false → (list_any test before ≡ false) × (test x ≡ false)
  last_apart test [] x h = (refl, (or_parts (test x) false h).0)
  last_apart test (d ∷ before) x h =
      let first = or_parts (test d) (list_any test (before ++ x ∷ [])) h in
      let rest = last_apart test before x first.1 in
      (or_from (test d) (list_any test before) first.0 rest.0, rest.1)

  -- of items that are new behind one more, each differs from that one
  pub all_apart : (before : List A) (x : A) (xs : List A) → AreNew (before ++ x ∷ []) xs → AreNew before xs × AllByRecursion (λ y. same x y ≡ false) xs
  all_apart before x [] h = (tt, tt)
  all_apart before x (y ∷ ys) h =
      let one = last_apart (λ d. same d y) before x h.0 in
      let rest = all_apart before x ys h.1 in
      ((one.0, rest.0), (one.1, rest.1))

  pub new_differ : (before xs : List A) → differ_from same before xs ≡ true → AreNew before xs × IsDistinct same xs
  unfolding IsDistinct
  new_differ before [] h = (tt, tt)
  new_differ before (x ∷ xs) h =
      let tests = and_parts (not (list_any (λ d. same d x) before)) (differ_from same (before ++ x ∷ []) xs) h in
      let rest = new_differ (before ++ x ∷ []) xs tests.1 in
      let apart = all_apart before x xs rest.0 in
      ((not_true (list_any (λ d. same d x) before) tests.0, apart.0), (apart.1, rest.1))
