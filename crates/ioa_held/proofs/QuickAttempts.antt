-- Quick commits of the proposal that is offered.
use Rattle.std.proofs.Common.{◌≡◌, ◌≤◌, ◌+◌, ℕ, List, [], ◌∷◌, Option, Some, None, IfSome, IsSome, ap, ◌∙◌, length}
use Rattle.std.proofs.lemmas.List.{length-append}
use Rattle.ioa_transitions.specs.Entries.{PlainEntry}
use Rattle.ioa_commits.specs.Books.{PlainBook}
use Rattle.ioa_commits.specs.Commits.{IsCommitted}
use Rattle.ioa_commits.specs.Proposals.{PlainProposal}
use Rattle.ioa_commits.specs.Versions.{PlainVersionedConf}
use Rattle.ioa_passes.specs.Passes.{PlainPass, risen_by_commit}
use Rattle.ioa_held.specs.Attempts.{IsTaken}

module _ (old new : PlainBook) (index : ℕ) (e : PlainEntry) where
  -- the book has one entry more
  pub record HasOneMore : Type 0 where
    pub longer : length new.log ≡ length old.log + 1
    pub begins : new.start ≡ old.start
    pub at : index ≡ length old.log

  pub one_more : (offer : Option PlainProposal) → IsSome offer → IfSome offer (λ p. IsCommitted old p index e new) → HasOneMore
  one_more None s h = absurd (cc)
  one_more (Some p) s h =
      record {
        longer = ap (λ (b : PlainBook). length b.log) h.recorded ∙ length-append old.log (p.entry ∷ []);
        begins = ap (λ (b : PlainBook). b.start) h.recorded;
        at = h.at;
      }

  -- so what was offered is taken
  pub taken_offer : (offer : Option PlainProposal) (p q : PlainPass) (rs : List PlainVersionedConf) (n : ℕ) → IfSome offer (λ x. IsCommitted old x index e new) → IfSome offer (λ x. rs ≡ x.reads) → p.length ≤ length old.log → n ≡ index + 1 → q ≡ risen_by_commit rs n p → IfSome offer (λ x. IsTaken old x p index e new q)
  taken_offer None p q rs n h g current is pass = tt
  taken_offer (Some x) p q rs n h g current is pass = record { current = current; commit = h; pass = pass ∙ ap (λ (l : ℕ). risen_by_commit rs l p) is ∙ ap (λ (r : List PlainVersionedConf). risen_by_commit r (index + 1) p) g }
