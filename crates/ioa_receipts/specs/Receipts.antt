-- Receipts (profile).
use Rattle.std.specs.Prelude.{ℕ, List, refl}
use Rattle.std.specs.Coded.{Coded, code_by, coded×, coded_ℕ, coded_list}
use Rattle.ioa_transitions.specs.Entries.{PlainEntry, entry_code}
use Rattle.ioa_receipts.specs.declared.receipts.Receipt.{Receipt}

-- an entry at an index
abbrev pub receipt : ℕ → PlainEntry → Receipt
receipt i e = record { index = i; entry = e }

abbrev pub receipt_code : Coded Receipt
receipt_code =
    code_by (ℕ × PlainEntry) (coded× coded_ℕ entry_code) (λ r. (r.index, r.entry)) (λ t. receipt t.0 t.1) (λ _. refl)

-- the receipts of a worker, and for how many there is room
pub record PlainReceipts : Type 0 where
  pub all : List Receipt
  pub room : ℕ

abbrev pub plain_receipts : List Receipt → ℕ → PlainReceipts
plain_receipts all room = record { all = all; room = room }

abbrev pub plain_receipts_code : Coded PlainReceipts
plain_receipts_code =
    code_by (List Receipt × ℕ) (coded× (coded_list receipt_code) coded_ℕ)
    (λ r. (r.all, r.room)) (λ t. plain_receipts t.0 t.1) (λ _. refl)
