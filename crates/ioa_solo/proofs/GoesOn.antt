-- The book of one worker, one commit after another.
use Rattle.std.proofs.Common.{◌≡◌, ◌+◌, ℕ, ℤ, List, [], ◌∷◌, ◌++◌, Ok, length, refl, sym, ap, ◌∙◌, append_assoc, arith}
use Rattle.std.proofs.lemmas.List.{append-nil, length-append}
use Rattle.ioa_transitions.specs.Entries.{PlainEntry}
use Rattle.ioa_commits.specs.Books.{PlainBook}
use Rattle.ioa_commits.specs.Proposals.{PlainProposal}
use Rattle.ioa_book.specs.Looks.{snapshot_after}
use Rattle.ioa_book.specs.Proposals.{proposal_answer}
use Rattle.ioa_receipts.specs.Covers.{numbered}
use Rattle.ioa_receipts.specs.Receipts.{receipt}
use Rattle.ioa_receipts.specs.declared.receipts.Receipt.{Receipt}
use Rattle.ioa_held.specs.Attempts.{IsTaken}
use Rattle.ioa_passes.specs.Passes.{PlainPass}
use Rattle.ioa_solo.specs.Told.{GoesOn, IsUpTo}
use Rattle.ioa_solo.proofs.UpTo.{commit_upto}

-- nothing is recorded
pub goes_nowhere : (old new : PlainBook) (had has : List Receipt) (q : PlainPass) → new ≡ old → has ≡ had → IsUpTo old q → GoesOn old new had has q
goes_nowhere old new had has q same receipts h = record {
  start = ap (λ (b : PlainBook). b.start) same;
  limit = ap (λ (b : PlainBook). b.limit) same;
  added = [];
  log = ap (λ (b : PlainBook). b.log) same ∙ sym (append-nil old.log);
  receipts = receipts ∙ sym (append-nil had);
  not_ahead = rw same h;
}

-- one entry is recorded
pub goes_by_commit : (old new : PlainBook) (n : ℤ) (x : PlainProposal) (p q : PlainPass) (r : Receipt) (had has : List Receipt) → IsUpTo old p →
    proposal_answer x.entry.action (snapshot_after n old.start old.log) ≡ Ok x → IsTaken old x p r.index r.entry new q → has ≡ had ++ r ∷ [] → GoesOn old new had has q
goes_by_commit old new n x p q r had has up proposed h receipts = record {
  start = ap (λ (b : PlainBook). b.start) h.commit.recorded;
  limit = ap (λ (b : PlainBook). b.limit) h.commit.recorded;
  added = x.entry ∷ [];
  log = ap (λ (b : PlainBook). b.log) h.commit.recorded;
  receipts = receipts ∙ ap (λ (y : Receipt). had ++ y ∷ []) (λ i. receipt (h.commit.at i) (h.commit.entry i));
  not_ahead = commit_upto old new n x p q r.index r.entry up proposed h;
}

-- entries with their indices, in two parts
numbered_append : (k : ℕ) (xs ys : List PlainEntry) → numbered k (xs ++ ys) ≡ numbered k xs ++ numbered (k + length xs) ys
numbered_append k [] ys = let same : k + length {A = PlainEntry} [] ≡ k = omega arith in rw same refl
numbered_append k (x ∷ xs) ys =
    let same : (k + 1) + length xs ≡ k + length (x ∷ xs) = omega arith in
    ap (λ (rs : List Receipt). receipt k x ∷ rs) (numbered_append (k + 1) xs ys ∙ ap (λ (i : ℕ). numbered (k + 1) xs ++ numbered i ys) same)

-- some entries are recorded, and then others
pub goes_further : (a b c : PlainBook) (rs qs ps : List Receipt) (q p : PlainPass) → GoesOn a b rs qs q → GoesOn b c qs ps p → GoesOn a c rs ps p
goes_further a b c rs qs ps q p f g =
    let long : length b.log ≡ length a.log + length f.added = ap length f.log ∙ length-append a.log f.added in
    record {
      start = g.start ∙ f.start;
      limit = g.limit ∙ f.limit;
      added = f.added ++ g.added;
      log = g.log ∙ ap (λ (l : List PlainEntry). l ++ g.added) f.log ∙ append_assoc a.log f.added g.added;
      receipts =
          g.receipts
          ∙ ap (λ (l : List Receipt). l ++ numbered (length b.log) g.added) f.receipts
          ∙ append_assoc rs (numbered (length a.log) f.added) (numbered (length b.log) g.added)
          ∙ ap (λ (i : ℕ). rs ++ (numbered (length a.log) f.added ++ numbered i g.added)) long
          ∙ ap (λ (l : List Receipt). rs ++ l) (sym (numbered_append (length a.log) f.added g.added));
      not_ahead = g.not_ahead;
    }
