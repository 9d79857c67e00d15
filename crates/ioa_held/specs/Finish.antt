-- Finishing (profile): what a book leaves once all shares are gathered.
use Rattle.std.specs.Prelude.{◌≡◌, ℕ, ⊤, List, length}
use Rattle.ioa_commits.specs.Books.{PlainBook, states_held}
use Rattle.ioa_compose.specs.Start.{start}
use Rattle.ioa_book.specs.BookLaws.{IsLawful}
use Rattle.ioa_receipts.specs.Covers.{CoversOnce, all_receipts}
use Rattle.ioa_receipts.specs.Receipts.{PlainReceipts}
use Rattle.ioa_record.specs.Recorded.{ReplaysWithin}
use Rattle.ioa_record.specs.declared.record.Record.{Record}
use Rattle.ioa_system.specs.Systems.{SystemParts}
use Rattle.ioa_held.specs.declared.finish.FinishFault.{FinishFault}
use Rattle.ioa_held.specs.declared.finish.FinishFault.TheVariants.{Foreign, SharesMissing, Memory, Unaccounted}

-- a book of this system (Lynch 8.1), in which so many entries may be recorded
pub record IsBookOf (b : PlainBook) (s : SystemParts) (limit : ℕ) : Type 0 where
  pub bounded : b.limit ≡ limit
  pub begins : b.start ≡ start s

-- a record that a book leaves: its log, the configurations that it holds, and what each share counts
pub record IsLeftBy (b : PlainBook) (counts : List ℕ) (r : Record) : Type 0 where
  pub schedule : r.schedule ≡ b.log
  pub states : r.states.items ≡ states_held b
  pub commits : r.commits.items ≡ counts

-- what has to be so that a book can be finished: it is of this system and this limit, each share is there, and the
-- receipts are each entry of the log once, at its index
pub record CanFinish (b : PlainBook) (s : SystemParts) (limit workers : ℕ) (counts : List ℕ)
    (receipts : List PlainReceipts) : Type 0 where
  pub of_system : IsBookOf b s limit
  pub gathered : length counts ≡ workers
  pub accounted : CoversOnce b.log (all_receipts receipts)

-- a book that is finished, with what it leaves
pub record IsFinished (b : PlainBook) (s : SystemParts) (limit workers : ℕ) (counts : List ℕ)
    (receipts : List PlainReceipts) (r : Record) : Type 0 where
  pub finishes : CanFinish b s limit workers counts receipts
  pub lawful : IsLawful b
  pub left : IsLeftBy b counts r
  -- the schedule is an execution of the system (Lynch 8.1), within the limit, and ends in the configurations held
  pub replayed : ReplaysWithin limit (start s) r.schedule r.states.items

-- why a book is not finished: the first reason in this order
abbrev pub IsUnfinished : PlainBook → SystemParts → ℕ → ℕ → List ℕ → List PlainReceipts → FinishFault → Type 0
IsUnfinished b s limit workers counts receipts Foreign = IsBookOf b s limit → ⊥
IsUnfinished b s limit workers counts receipts SharesMissing =
    IsBookOf b s limit × (length counts ≡ workers → ⊥)
IsUnfinished b s limit workers counts receipts Memory = IsBookOf b s limit × (length counts ≡ workers)
IsUnfinished b s limit workers counts receipts Unaccounted =
    IsBookOf b s limit × (length counts ≡ workers) × (CoversOnce b.log (all_receipts receipts) → ⊥)

-- why receipts are not shown to account for a log (form)
abbrev pub IsUnaccounted : PlainBook → List PlainReceipts → FinishFault → Type 0
IsUnaccounted b receipts Foreign = ⊥
IsUnaccounted b receipts SharesMissing = ⊥
IsUnaccounted b receipts Memory = ⊤
IsUnaccounted b receipts Unaccounted = CoversOnce b.log (all_receipts receipts) → ⊥
