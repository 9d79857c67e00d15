-- Whether receipts account for a log (profile).
use Rattle.std.specs.Prelude.{◌≡◌, ◌+◌, ◌<◌, ◌==◌, ℕ, List, [], ◌∷◌, ◌++◌, Some, length, slice_get, filter}
use Rattle.std.specs.List.{AllByRecursion}
use Rattle.ioa_transitions.specs.Entries.{PlainEntry}
use Rattle.ioa_receipts.specs.Receipts.{PlainReceipts, receipt}
use Rattle.ioa_receipts.specs.declared.receipts.Receipt.{Receipt}

-- the receipts of all workers, those of the first worker in front
abbrev pub all_receipts : List PlainReceipts → List Receipt
all_receipts [] = []
all_receipts (w ∷ ws) = w.all ++ all_receipts ws

-- the entry of a receipt is what stands in the log at its index
abbrev pub IsReceiptOf : List PlainEntry → Receipt → Type 0
IsReceiptOf log r = slice_get log r.index ≡ Some r.entry

-- how many receipts are for an index
abbrev pub count_at : ℕ → List Receipt → ℕ
count_at k rs = length (filter (λ r. r.index == k) rs)

-- receipts are each entry of a log once, at its index, and no other
pub record CoversOnce (log : List PlainEntry) (rs : List Receipt) : Type 0 where
  pub entries : AllByRecursion (IsReceiptOf log) rs
  pub once : (k : ℕ) → k < length log → count_at k rs ≡ 1

-- each entry with its index, if the first has the index k
abbrev pub numbered : ℕ → List PlainEntry → List Receipt
numbered k [] = []
numbered k (e ∷ es) = receipt k e ∷ numbered (k + 1) es
