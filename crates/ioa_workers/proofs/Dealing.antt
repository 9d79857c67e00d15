-- A worker gets its nodes one after another: each N-th one of all, from its own number on.
use Rattle.std.proofs.Common.{◌≡◌, ℕ, ◌+◌, ◌*◌, ◌<◌, ◌≤◌, ℤ, List, [], ◌∷◌, ◌++◌, length, Some, None, arith, sym, ◌∙◌, ap, below_more}
use Rattle.std.proofs.lemmas.List.{length-append}
use Rattle.std.proofs.lemmas.Option.{none-some, slice_get_past, slice_get_within, slice_get-get_or}
use Rattle.std.proofs.Math.Nat.{mul-le-mul_right}
use Rattle.std.specs.List.{slice_get}
use Rattle.ioa_workers.proofs.Behind.{before, last}

-- the nodes of the first places: at place p stands the node at w + p * N, if there is one
pub record AreDealt (all : List ℤ) (worker workers places : ℕ) (nodes : List ℤ) : Type 0 where
  pub few : length nodes ≤ places
  pub each : (place : ℕ) → place < places → slice_get nodes place ≡ slice_get all (worker + place * workers)

module _ (all : List ℤ) (worker workers places : ℕ) (nodes : List ℤ) (h : AreDealt all worker workers places nodes) where
  -- there is nothing behind an end
  no_gap : (x : ℤ) → slice_get all (worker + places * workers) ≡ Some x → length nodes < places → ⊥
  no_gap x e less =
      let end = slice_get_past nodes (length nodes) (omega arith) in
      let gone : slice_get all (worker + length nodes * workers) ≡ None = sym (h.each (length nodes) less) ∙ end in
      let there : worker + places * workers < length all = slice_get_within all (worker + places * workers) x e in
      let sooner : length nodes * workers ≤ places * workers = mul-le-mul_right workers (omega arith) in
      none-some _ (sym gone ∙ slice_get-get_or all (worker + length nodes * workers) x (omega arith))

  -- at the next place is a node
  pub dealt_next : (x : ℤ) → slice_get all (worker + places * workers) ≡ Some x → AreDealt all worker workers (places + 1) (nodes ++ x ∷ [])
  dealt_next x e =
      let full : length nodes ≡ places = omega (arith, no_gap x e, h.few) in
      record {
        few = omega (arith, length-append nodes (x ∷ []), h.few);
        each =
            below_more _ _
            (λ k less. before nodes x k (omega (arith, full, less)) ∙ h.each k less)
            (ap (λ k. slice_get (nodes ++ x ∷ []) k) (sym full) ∙ last nodes x ∙ sym e);
      }

  -- or there is none
  pub dealt_none : slice_get all (worker + places * workers) ≡ None → AreDealt all worker workers (places + 1) nodes
  dealt_none e = record {
    few = omega (arith, h.few);
    each = below_more _ _ h.each (slice_get_past nodes places h.few ∙ sym e);
  }
