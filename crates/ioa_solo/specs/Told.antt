-- A worker on a book that its board tells (profile).
use Rattle.std.specs.Prelude.{◌≡◌, ◌≤◌, Bool, true, List, ◌++◌, length}
use Rattle.std.specs.List.{AllByRecursion}
use Rattle.ioa_commits.specs.Books.{PlainBook}
use Rattle.ioa_commits.specs.Versions.{version}
use Rattle.ioa_receipts.specs.Covers.{numbered}
use Rattle.ioa_receipts.specs.declared.receipts.Receipt.{Receipt}
use Rattle.ioa_passes.specs.Passes.{PlainPass}
use Rattle.ioa_passes.specs.declared.pass.Seen.{Seen}
use Rattle.ioa_transitions.specs.Entries.{PlainEntry}
use Rattle.ioa_solo.specs.declared.hand.Hand.{Hand}

-- no version that was seen is ahead of a log
abbrev pub AreUpTo : List PlainEntry → List Seen → Type 0
AreUpTo log seen = AllByRecursion (λ s. s.version ≤ version s.component log) seen

-- a pass that is not ahead of a book
pub record IsUpTo (b : PlainBook) (p : PlainPass) : Type 0 where
  pub log : p.length ≤ length b.log
  pub versions : AreUpTo b.log p.seen

-- a board tells this book, and the pass is not ahead of it
pub record IsToldTo (tells : Bool) (b : PlainBook) (p : PlainPass) : Type 0 where
  pub told : tells ≡ true
  pub not_ahead : IsUpTo b p

-- the book after some work of one worker: it began at the same configurations and has the same limit; what was recorded
-- since is what the worker has got receipts for; and the worker has seen no more than that
pub record GoesOn (old new : PlainBook) (had has : List Receipt) (q : PlainPass) : Type 0 where
  pub start : new.start ≡ old.start
  pub limit : new.limit ≡ old.limit
  pub added : List PlainEntry
  pub log : new.log ≡ old.log ++ added
  pub receipts : has ≡ had ++ numbered (length old.log) added
  pub not_ahead : IsUpTo new q

-- the same with what a worker has
abbrev pub WorksOn : {L : Type 0} → PlainBook → Hand L → PlainBook → Hand L → Type 0
WorksOn old had new has = GoesOn old new had.receipts.all has.receipts.all has.pass
