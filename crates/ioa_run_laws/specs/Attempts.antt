-- Attempts at what stands under the commit lock, behind whatever was recorded since the look (Lynch 8.2; profile).
use Rattle.std.specs.Prelude.{◌≡◌, ◌↔◌, ◌+◌, ◌<◌, ◌≤◌, ℕ, ℤ, true, List, [], ◌∷◌, ◌++◌, length, Result, Ok, Err}
use Rattle.ioa_actions.specs.declared.action.Action.{Action}
use Rattle.ioa_actions.specs.declared.component.Component.{Component}
use Rattle.ioa_transitions.specs.Entries.{PlainEntry}
use Rattle.ioa_compose.specs.Executions.{projection_of}
use Rattle.ioa_compose.specs.Participants.{takes_part}
use Rattle.ioa_commits.specs.Books.{PlainBook}
use Rattle.ioa_commits.specs.Proposals.{PlainProposal}
use Rattle.ioa_commits.specs.declared.outcome.CommitRefusal.TheVariants.{Stale, Full}
use Rattle.ioa_book.specs.Looks.{PlainSnapshot}
use Rattle.ioa_book.specs.Proposals.{proposal_answer}
use Rattle.ioa_core.specs.CommitLaws.{IsApartFrom}
use Rattle.ioa_passes.specs.Looks.{view_answer}
use Rattle.ioa_passes.specs.Passes.{PlainPass}
use Rattle.ioa_passes.specs.declared.outcome.Older.{Older}
use Rattle.ioa_held.specs.Attempts.{IsMissed, IsTaken}
use Rattle.ioa_held.specs.declared.outcome.Miss.{Miss}
use Rattle.ioa_held.specs.declared.outcome.Miss.TheVariants as miss

-- a book that has gone on: it began at the same configurations, has the same limit, and these entries were recorded
-- since
pub record GoesOnBy (since : List PlainEntry) (old now : PlainBook) : Type 0 where
  pub start : now.start ≡ old.start
  pub limit : now.limit ≡ old.limit
  pub log : now.log ≡ old.log ++ since

-- a proposal of an action on a look that a book showed, under any pass
pub record IsProposedAt (b : PlainBook) (x : PlainProposal) : Type 0 where
  pub pass : PlainPass
  pub node : ℤ
  pub look : PlainSnapshot
  pub shown : view_answer b pass node ≡ Ok look
  pub action : Action
  pub proposed : proposal_answer action look ≡ Ok x

-- what an attempt tells: its index and its entry; or why it is missed, and the proposal that is handed back
abbrev pub Told : Type 0
Told = Result (ℕ × PlainEntry) (Miss × PlainProposal)

-- an attempt at a book, what it tells, and the book and the pass that it leaves
abbrev pub IsAttempt : PlainBook → PlainProposal → PlainPass → Told → PlainBook → PlainPass → Type 0
IsAttempt old x p (Ok t) new q = IsTaken old x p t.0 t.1 new q
IsAttempt old x p (Err m) new q = IsMissed old x p m.0 m.1 new q

-- what it records
abbrev pub recorded_by : Told → List PlainEntry
recorded_by (Ok t) = t.1 ∷ []
recorded_by (Err m) = []

-- an attempt that is refused for what a pass has seen
pub record IsOlder (r : Told) : Type 0 where
  pub older : Older
  pub back : PlainProposal
  pub told : r ≡ Err (miss.Older older, back)

-- an attempt that is refused for a conflict: a component of its action has taken part in these entries, and so often
-- more than when it was read
pub record IsConflictWith (since : List PlainEntry) (x : PlainProposal) (r : Told) : Type 0 where
  pub component : Component
  pub read : ℕ
  pub held : ℕ
  pub told : r ≡ Err (miss.Refused (Stale component read held), x)
  pub own : takes_part component x.entry.action ≡ true
  pub moved : held ≡ read + length (projection_of component since)
  pub touched : read < held

-- what an attempt tells, if these entries were recorded since its look: it is made exactly if none of them has a
-- component in common with it and there is room, it is full exactly if there is none and no room, and else it is a
-- conflict
pub record IsDecidedBy (since : List PlainEntry) (b : PlainBook) (x : PlainProposal) (r : Told) : Type 0 where
  pub made : (r ≡ Ok (length b.log, x.entry)) ↔ (IsApartFrom since x.entry.action × (length b.log < b.limit))
  pub full : (r ≡ Err (miss.Refused Full, x)) ↔ (IsApartFrom since x.entry.action × (b.limit ≤ length b.log))
  pub conflict : (IsApartFrom since x.entry.action → ⊥) ↔ IsConflictWith since x r
