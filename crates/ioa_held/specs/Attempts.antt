-- Attempts under a pass (profile): a commit, or why there is none.
use Rattle.std.specs.Prelude.{◌≡◌, ◌≤◌, ℕ, ◌+◌, Some, Result, Ok, Err, length}
use Rattle.ioa_transitions.specs.Entries.{PlainEntry}
use Rattle.ioa_commits.specs.Books.{PlainBook}
use Rattle.ioa_commits.specs.Commits.{IsCommitted, IsRefused}
use Rattle.ioa_commits.specs.Proposals.{PlainProposal}
use Rattle.ioa_commits.specs.declared.outcome.CommitRefusal.{CommitRefusal}
use Rattle.ioa_passes.specs.Passes.{PlainPass, older_length, risen_by_commit, risen_by_refusal}
use Rattle.ioa_passes.specs.declared.outcome.Older.{Older}
use Rattle.ioa_held.specs.declared.outcome.Miss.{Miss}
use Rattle.ioa_held.specs.declared.outcome.Miss.TheVariants as miss

-- an attempt that is made: the log is not shorter than the pass has seen, it is a commit of the book, and the pass
-- rises to what that leaves
pub record IsTaken (old : PlainBook) (x : PlainProposal) (p : PlainPass) (index : ℕ) (e : PlainEntry) (new : PlainBook)
    (q : PlainPass) : Type 0 where
  pub current : p.length ≤ length old.log
  pub commit : IsCommitted old x index e new
  pub pass : q ≡ risen_by_commit x.reads (index + 1) p

-- an attempt at a log that is shorter than the pass has seen: nothing changes, and the proposal is handed back
pub record IsBehind (old : PlainBook) (x : PlainProposal) (p : PlainPass) (o : Older) (back : PlainProposal)
    (new : PlainBook) (q : PlainPass) : Type 0 where
  pub older : older_length p.length (length old.log) ≡ Some o
  pub handed_back : back ≡ x
  pub unchanged : new ≡ old
  pub pass : q ≡ p

-- an attempt that the book refuses
pub record IsRefusedBy (old : PlainBook) (x : PlainProposal) (p : PlainPass) (why : CommitRefusal)
    (back : PlainProposal) (new : PlainBook) (q : PlainPass) : Type 0 where
  pub current : p.length ≤ length old.log
  pub commit : IsRefused old x why back new
  pub pass : q ≡ risen_by_refusal why p

-- an attempt that is missed
abbrev pub IsMissed : PlainBook → PlainProposal → PlainPass → Miss → PlainProposal → PlainBook → PlainPass → Type 0
IsMissed old x p (miss.Older o) back new q = IsBehind old x p o back new q
IsMissed old x p (miss.Refused why) back new q = IsRefusedBy old x p why back new q

-- how many commits an attempt has made
abbrev pub commits : {X E : Type 0} → Result X E → ℕ
commits (Ok x) = 1
commits (Err e) = 0
