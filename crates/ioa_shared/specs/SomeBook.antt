-- What is known of a book that stands under a lock (profile): some lawful book answers so, which begins at the start of
-- a system (Lynch 8.1).
use Rattle.std.specs.Prelude.{ℕ, ℤ, List, Result}
use Rattle.ioa_values.specs.Outcome.{Answers}
use Rattle.ioa_transitions.specs.Entries.{PlainEntry}
use Rattle.ioa_commits.specs.Books.{PlainBook}
use Rattle.ioa_commits.specs.Proposals.{PlainProposal}
use Rattle.ioa_book.specs.Looks.{PlainSnapshot}
use Rattle.ioa_receipts.specs.Receipts.{PlainReceipts}
use Rattle.ioa_record.specs.declared.record.Record.{Record}
use Rattle.ioa_system.specs.Systems.{SystemParts}
use Rattle.ioa_passes.specs.Looks.{view_answer}
use Rattle.ioa_passes.specs.Passes.{PlainPass}
use Rattle.ioa_passes.specs.declared.outcome.ViewFault.{ViewFault}
use Rattle.ioa_passes.specs.declared.outcome.ViewFault.TheVariants.{Memory}
use Rattle.ioa_held.specs.Attempts.{IsMissed, IsTaken}
use Rattle.ioa_held.specs.Finish.{IsBookOf, IsFinished, IsUnfinished}
use Rattle.ioa_held.specs.Openings.{BeginsAt}
use Rattle.ioa_held.specs.declared.finish.FinishFault.{FinishFault}
use Rattle.ioa_held.specs.declared.outcome.Miss.{Miss}

-- a look at some lawful book that begins at the start of a system, under a pass
pub record LooksAtSome (s : SystemParts) (p : PlainPass) (n : ℤ) (told : Result PlainSnapshot ViewFault) : Type 0 where
  pub found : PlainBook
  pub begins : BeginsAt s found
  pub look : Answers Memory (λ l. l) told (view_answer found p n)

-- some lawful book begins at the start of a system
pub record BeginsSome (s : SystemParts) : Type 0 where
  pub found : PlainBook
  pub begins : BeginsAt s found

-- a commit that some lawful book has made, which begins at the start of a system, and is lawful after it
pub record TakesInSome (s : SystemParts) (x : PlainProposal) (p : PlainPass) (index : ℕ) (e : PlainEntry)
    (q : PlainPass) : Type 0 where
  pub old : PlainBook
  pub new : PlainBook
  pub before : BeginsAt s old
  pub behind : BeginsAt s new
  pub taken : IsTaken old x p index e new q

-- an attempt that some lawful book misses, which begins at the start of a system
pub record MissesInSome (s : SystemParts) (x : PlainProposal) (p : PlainPass) (why : Miss) (back : PlainProposal)
    (q : PlainPass) : Type 0 where
  pub old : PlainBook
  pub begins : BeginsAt s old
  pub missed : IsMissed old x p why back old q

-- some book that is finished, with what it leaves
pub record FinishesSome (s : SystemParts) (limit workers : ℕ) (counts : List ℕ) (receipts : List PlainReceipts)
    (r : Record) : Type 0 where
  pub found : PlainBook
  pub finished : IsFinished found s limit workers counts receipts r

-- some lawful book that is not finished as one of this system and this limit; it was opened with a system and a limit
pub record LeavesSome (opened : SystemParts) (room : ℕ) (s : SystemParts) (limit workers : ℕ) (counts : List ℕ)
    (receipts : List PlainReceipts) (why : FinishFault) : Type 0 where
  pub found : PlainBook
  pub begins : BeginsAt opened found
  pub of_opening : IsBookOf found opened room
  pub unfinished : IsUnfinished found s limit workers counts receipts why
