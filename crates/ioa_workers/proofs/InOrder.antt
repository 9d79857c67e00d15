-- Endings are gathered one after another.
use Rattle.std.proofs.Common.{ℕ, ◌+◌, List, [], ◌∷◌, ◌++◌, arith, sym, ◌∙◌, ap, below_more}
use Rattle.std.proofs.lemmas.List.{length-append}
use Rattle.std.specs.List.{slice_get}
use Rattle.ioa_record.specs.declared.ending.Ending.{Ending}
use Rattle.ioa_workers.specs.Slots.{AreEndingsIn, PlainSlot, ending_in}
use Rattle.ioa_workers.proofs.Behind.{before, last}

-- one more node's ending is there
pub endings_next : (slots : List PlainSlot) (k : ℕ) (es : List Ending) → AreEndingsIn slots k es → AreEndingsIn slots (k + 1) (es ++ ending_in slots k ∷ [])
endings_next slots k es h = record {
  many = omega (arith, length-append es (ending_in slots k ∷ []), h.many);
  each =
      below_more _ _
      (λ i less. before es (ending_in slots k) i (omega (arith, h.many, less)) ∙ h.each i less)
      (ap (λ i. slice_get (es ++ ending_in slots k ∷ []) i) (sym h.many) ∙ last es (ending_in slots k));
}
