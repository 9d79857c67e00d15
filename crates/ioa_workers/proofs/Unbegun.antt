-- Workers get their slots one after another.
use Rattle.std.proofs.Common.{◌≡◌, ℕ, ◌+◌, ◌<◌, ℤ, List, [], ◌∷◌, ◌++◌, length, Some, arith, sym, ◌∙◌, subst, below_more}
use Rattle.std.proofs.lemmas.List.{length-append}
use Rattle.std.proofs.lemmas.Option.{same_Some, slice_get_within}
use Rattle.std.specs.List.{slice_get}
use Rattle.ioa_workers.specs.Slots.{AreUnbegun, IsUnbegun, PlainSlot}
use Rattle.ioa_workers.proofs.Behind.{before, last}

module _ (all : List ℤ) (workers : ℕ) (slots : List PlainSlot) (h : AreUnbegun all workers slots)
    (slot : PlainSlot) (fresh : IsUnbegun all (length slots) workers slot) where
  abbrev At : ℕ → Type 0
  At k = (s : PlainSlot) → slice_get (slots ++ slot ∷ []) k ≡ Some s → IsUnbegun all k workers s

  -- one more worker has its slot
  pub unbegun_next : AreUnbegun all workers (slots ++ slot ∷ [])
  unbegun_next k s e =
      let P : PlainSlot → Type 0 = λ s. IsUnbegun all (length slots) workers s in
      let here : At (length slots) = λ s e. subst P (same_Some slot s (sym (last slots slot) ∙ e)) fresh in
      let less : k < length slots + 1 = omega (arith, length-append slots (slot ∷ []), slice_get_within (slots ++ slot ∷ []) k s e) in
      below_more At (length slots) (λ k less s e. h k s (sym (before slots slot k less) ∙ e)) here k less s e
