-- A run by one worker is finished.
use Rattle.std.proofs.Common.{◌≡◌, ◌+◌, ℕ, ℤ, Bool, suc, List, [], ◌∷◌, ◌++◌, map, length, refl, sym, ap, subst, ◌∙◌, arith}
use Rattle.std.proofs.lemmas.List.{append-nil, length-append}
use Rattle.ioa_actions.specs.declared.component.Component.{Component}
use Rattle.ioa_transitions.specs.Entries.{PlainEntry}
use Rattle.ioa_compose.specs.Composition.{component_names}
use Rattle.ioa_compose.specs.Start.{start}
use Rattle.ioa_compose.specs.declared.configuration.Conf.{Conf}
use Rattle.ioa_commits.specs.Books.{PlainBook, plain_book}
use Rattle.ioa_receipts.specs.Covers.{CoversOnce, numbered}
use Rattle.ioa_receipts.specs.Receipts.{PlainReceipts}
use Rattle.ioa_receipts.specs.declared.receipts.Receipt.{Receipt}
use Rattle.ioa_receipts.proofs.Numbered.{numbered_covers}
use Rattle.ioa_held.specs.Finish.{CanFinish, IsUnfinished}
use Rattle.ioa_passes.specs.Passes.{PlainPass, first_pass, unseen}
use Rattle.ioa_held.specs.declared.finish.FinishFault.{FinishFault}
use Rattle.ioa_held.specs.declared.finish.FinishFault.TheVariants.{Foreign, SharesMissing, Memory, Unaccounted}
use Rattle.ioa_system.specs.Systems.{SystemParts}
use Rattle.ioa_solo.specs.Hands.{HasGained}
use Rattle.ioa_solo.specs.Told.{AreUpTo, GoesOn, IsUpTo}

-- who has seen nothing is not ahead
all_unseen : (ks : List Component) → AreUpTo [] (map unseen ks)
all_unseen [] = tt
all_unseen (k ∷ ks) = (omega arith, all_unseen ks)

pub first_upto : (cs : List Conf) (limit : ℕ) → IsUpTo (plain_book cs [] limit) (first_pass cs)
first_upto cs limit = record { log = omega arith; versions = all_unseen (component_names cs) }

module _ (s : SystemParts) (limit : ℕ) (old new : PlainBook) (had : List Receipt) (rs : PlainReceipts) (q : PlainPass) (begun : old ≡ plain_book (start s) [] limit) (none : had ≡ []) (h : GoesOn old new had rs.all q) where
  whole : new.log ≡ h.added
  whole = h.log ∙ ap (λ (b : PlainBook). b.log ++ h.added) begun

  got : rs.all ≡ numbered 0 h.added
  got = h.receipts ∙ (λ j. none j ++ numbered (length (begun j).log) h.added)

  -- all that is wanted is there
  pub can_finish : (workers count : ℕ) → workers ≡ 1 → CanFinish new s limit workers (count ∷ []) (rs ∷ [])
  can_finish workers count one = record {
    of_system = record {
      bounded = h.limit ∙ ap (λ (b : PlainBook). b.limit) begun;
      begins = h.start ∙ ap (λ (b : PlainBook). b.start) begun;
    };
    gathered = sym one;
    accounted =
        subst (λ (l : List PlainEntry). CoversOnce l (rs.all ++ [])) (sym whole)
        (subst (λ (l : List Receipt). CoversOnce h.added l) (sym (append-nil rs.all ∙ got)) (numbered_covers h.added));
  }

  length_numbered : (k : ℕ) (es : List PlainEntry) → length (numbered k es) ≡ length es
  length_numbered k [] = refl
  length_numbered k (e ∷ es) = ap suc (length_numbered (k + 1) es)

  -- the share counts each entry
  pub counts_all : (before left : (ℤ → Bool) → ℕ) (first count : ℕ) → first ≡ 0 → HasGained before left first count had rs.all → count ≡ length new.log
  counts_all before left first count zero g =
      let more : length rs.all ≡ length had + length g.gained = ap length g.receipts ∙ length-append had g.gained in
      let before : length had ≡ 0 = ap length none in
      let those : length rs.all ≡ length h.added = ap length got ∙ length_numbered 0 h.added in
      let these : length new.log ≡ length h.added = ap length whole in
      omega (arith, more, before, those, these, g.share, zero)

-- so there is no fault but want of memory
pub only_memory : (s : SystemParts) (limit workers : ℕ) (new : PlainBook) (counts : List ℕ) (receipts : List PlainReceipts) (f : FinishFault) →
    CanFinish new s limit workers counts receipts → IsUnfinished new s limit workers counts receipts f → f ≡ Memory
only_memory s limit workers new counts receipts Foreign can h = absurd (h can.of_system)
only_memory s limit workers new counts receipts SharesMissing can h = absurd (h.1 can.gathered)
only_memory s limit workers new counts receipts Memory can h = refl
only_memory s limit workers new counts receipts Unaccounted can h = absurd (h.2 can.accounted)
