-- The entries of a log with their indices cover it.
use Rattle.std.proofs.Common.{◌≡◌, ◌≢◌, ◌<◌, ◌+◌, ℕ, suc, zero, List, [], ◌∷◌, ◌++◌, Some, length, refl, sym, subst, ◌∙◌, ap, arith, append_assoc}
use Rattle.std.specs.List.{AllByRecursion, slice_get}
use Rattle.std.proofs.lemmas.List.{append-nil, length_push}
use Rattle.ioa_transitions.specs.Entries.{PlainEntry}
use Rattle.ioa_receipts.specs.Receipts.{PlainReceipts, receipt}
use Rattle.ioa_receipts.specs.Covers.{CoversOnce, IsReceiptOf, all_receipts, count_at, numbered}
use Rattle.ioa_receipts.proofs.Filling.{count_at_same, count_at_other}

-- what stands behind the first entries
behind : (es : List PlainEntry) (e : PlainEntry) (more : List PlainEntry) →
    slice_get (es ++ e ∷ more) (length es) ≡ Some e
behind [] e more = refl
behind (d ∷ es) e more = behind es e more

-- the entries behind others, with their indices in the whole
numbered_entries : (before log : List PlainEntry) (k : ℕ) → k ≡ length before →
    AllByRecursion (IsReceiptOf (before ++ log)) (numbered k log)
numbered_entries before [] k is = tt
numbered_entries before (e ∷ log) k is = (
  subst (λ i. slice_get (before ++ e ∷ log) i ≡ Some e) (sym is) (behind before e log),
  subst (λ whole. AllByRecursion (IsReceiptOf whole) (numbered (k + 1) log)) (append_assoc before (e ∷ []) log)
      (numbered_entries (before ++ e ∷ []) log (k + 1) (omega (arith, length_push before e, is))),
)

-- none has an index before the first
numbered_before : (k i : ℕ) (log : List PlainEntry) → i < k → count_at i (numbered k log) ≡ 0
numbered_before k i [] h = refl
numbered_before k i (e ∷ log) h =
    let differ : k ≢ i = omega arith in
    count_at_other (receipt k e) (numbered (k + 1) log) i differ ∙ numbered_before (k + 1) i log (omega arith)

-- each index has one
numbered_once : (k i j : ℕ) (log : List PlainEntry) → i < length log → j ≡ k + i → count_at j (numbered k log) ≡ 1
numbered_once k i j [] h is = absurd (omega arith)
numbered_once k zero j (e ∷ log) h is =
    count_at_same (receipt k e) (numbered (k + 1) log) j (omega arith)
    ∙ ap suc (numbered_before (k + 1) j log (omega arith))
numbered_once k (suc i) j (e ∷ log) h is =
    let differ : k ≢ j = omega arith in
    count_at_other (receipt k e) (numbered (k + 1) log) j differ
    ∙ numbered_once (k + 1) i j log (omega arith) (omega arith)

-- the entries of a log, each with its index, cover it
pub numbered_covers : (log : List PlainEntry) → CoversOnce log (numbered 0 log)
numbered_covers log =
    record {
      entries = numbered_entries [] log 0 refl;
      once = λ k within. numbered_once 0 k k log within (omega arith);
    }

-- and so do they if one worker has them
pub one_covers : (log : List PlainEntry) (w : PlainReceipts) (ws : List PlainReceipts) → length ws ≡ 0 →
    w.all ≡ numbered 0 log → CoversOnce log (all_receipts (w ∷ ws))
one_covers log w [] none same = subst (CoversOnce log) (sym same ∙ sym (append-nil w.all)) (numbered_covers log)
one_covers log w (v ∷ ws) none same = absurd (omega arith)
