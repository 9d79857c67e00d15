-- What a worker's visits make of a node, whoever else commits to the book (profile): each look and each commit is one of
-- some lawful book, which begins at the start of the system.
use Rattle.std.specs.Prelude.{◌≡◌, ◌⊎◌, ℕ, zero, suc, ◌-◌, ◌≤◌, ℤ, List, Option, Some, None, Result, Ok, Err, is_some}
use Rattle.std.specs.Prelude.{slice_get, true}
use Rattle.std.specs.List.{AllByRecursion}
use Rattle.ioa_actions.specs.declared.fault.StepFault.{StepFault}
use Rattle.ioa_transitions.specs.Entries.{PlainEntry}
use Rattle.ioa_commits.specs.Proposals.{PlainProposal}
use Rattle.ioa_commits.specs.Versions.{read_confs}
use Rattle.ioa_book.specs.Looks.{PlainSnapshot}
use Rattle.ioa_book.specs.Proposals.{proposal_answer}
use Rattle.ioa_record.specs.declared.ending.Ending.{Ending}
use Rattle.ioa_record.specs.declared.ending.Ending.TheVariants.{Done, Spent, Fault}
use Rattle.ioa_record.specs.declared.ending.NodeFault.{NodeFault}
use Rattle.ioa_record.specs.declared.ending.NodeFault.TheVariants as fault
use Rattle.ioa_passes.specs.Passes.{PlainPass}
use Rattle.ioa_passes.specs.declared.outcome.ViewFault.{ViewFault}
use Rattle.ioa_held.specs.declared.outcome.Miss.{Miss}
use Rattle.ioa_shared.specs.SomeBook.{LooksAtSome, MissesInSome, TakesInSome}
use Rattle.ioa_sharing.specs.declared.named.Origin as Origin
use Rattle.ioa_system.specs.Parts.{Parts}
use Rattle.ioa_system.specs.Systems.{SystemParts}
use Rattle.ioa_schedules.specs.Turns.{TurnEnd, fires, idle, done}
use Rattle.ioa_turns.specs.Fired.{action_fired}
use Rattle.ioa_turns.specs.NodeTurns.{PlainProgress, past_fire, progress_at, turn_at, with_ending}
use Rattle.ioa_solo.specs.Fires.{failed_by, fault_of_view, missed_by}
use Rattle.ioa_solo.specs.Meets.{met_in}
use Rattle.ioa_solo.specs.Visits.{progress_in}
use Rattle.ioa_solo.specs.Works.{program_of}
use Rattle.ioa_solo.specs.declared.visited.Visited.{Visited}

-- some lawful book has made the commit of a proposal
pub record TakesAtSome (s : SystemParts) (x : PlainProposal) : Type 0 where
  pub before : PlainPass
  pub index : ℕ
  pub entry : PlainEntry
  pub after : PlainPass
  pub taken : TakesInSome s x before index entry after

-- some lawful book has missed it, and why
pub record MissesAtSome (s : SystemParts) (x : PlainProposal) (why : Miss) : Type 0 where
  pub before : PlainPass
  pub back : PlainProposal
  pub after : PlainPass
  pub missed : MissesInSome s x before why back after

-- what came of a commit: it was made, or there is a reason why it was missed
abbrev pub CommitsAtSome : SystemParts → PlainProposal → Option Miss → Type 0
CommitsAtSome s x None = TakesAtSome s x
CommitsAtSome s x (Some why) = MissesAtSome s x why

-- a node then: it moves past its fire, or is as its miss leaves it
abbrev pub after_commit : Option Miss → PlainProgress → PlainProgress
after_commit None p = past_fire p
after_commit (Some why) p = missed_by why p

-- a node before and after a commit of its proposal
pub record IsCommitted (s : SystemParts) (x : PlainProposal) (p q : PlainProgress) : Type 0 where
  pub missed : Option Miss
  pub commit : CommitsAtSome s x missed
  pub node : q ≡ after_commit missed p

-- a node before and after it fires an action, by what it proposes
abbrev pub IsProposed : SystemParts → Result PlainProposal StepFault → PlainProgress → PlainProgress → Type 0
IsProposed s (Ok x) p q = IsCommitted s x p q
IsProposed s (Err f) p q = q ≡ failed_by f p

-- the same behind a turn that ends so on what a look shows
abbrev pub IsAfterEndOn : SystemParts → PlainSnapshot → PlainProgress → TurnEnd → PlainProgress → Type 0
IsAfterEndOn s t p done q = q ≡ with_ending Done p
IsAfterEndOn s t p idle q = q ≡ p
IsAfterEndOn s t p (fires k w vs) q = IsProposed s (proposal_answer (action_fired p.program w vs) t) p q

-- the same by the result of the turn
abbrev pub IsAfterTurnOn : SystemParts → PlainSnapshot → PlainProgress → Result (TurnEnd × PlainProgress) NodeFault
    → PlainProgress → Type 0
IsAfterTurnOn s t p (Ok r) q = IsAfterEndOn s t r.1 r.0 q
IsAfterTurnOn s t p (Err f) q = q ≡ with_ending (Fault f) p

-- a node before and after its turn on what a look shows
abbrev pub IsAttemptOn : SystemParts → PlainSnapshot → PlainProgress → PlainProgress → Type 0
IsAttemptOn s t p q = IsAfterTurnOn s t p (turn_at (read_confs t.reads) p) q

-- the same by the look, for want of which it ends
abbrev pub IsAttemptBy : SystemParts → Result PlainSnapshot ViewFault → PlainProgress → PlainProgress → Type 0
IsAttemptBy s (Ok t) p q = IsAttemptOn s t p q
IsAttemptBy s (Err f) p q = q ≡ with_ending (Fault (fault_of_view f)) p

-- a node before and after an attempt
pub record IsSomeAttempt (s : SystemParts) (p q : PlainProgress) : Type 0 where
  pub pass : PlainPass
  pub look : Result PlainSnapshot ViewFault
  pub shown : LooksAtSome s pass p.program.node look
  pub attempt : IsAttemptBy s look p q

-- a node that has used an attempt
abbrev pub one_used : PlainProgress → PlainProgress
one_used p = record p { attempts = p.attempts - 1 }

-- a node before and after a visit: it is spent if no attempt is left, else one is used
abbrev pub IsSomeVisit : SystemParts → PlainProgress → PlainProgress → Type 0
IsSomeVisit s p q =
    ((p.attempts ≡ 0) × (q ≡ with_ending Spent p)) ⊎ ((p.attempts ≡ 0 → ⊥) × IsSomeAttempt s (one_used p) q)

-- a node that has an ending is not visited again
abbrev pub IsPassedBy : SystemParts → PlainProgress → PlainProgress → Type 0
IsPassedBy s p q = ((is_some p.ending ≡ true) × (q ≡ p)) ⊎ ((p.ending ≡ None) × IsSomeVisit s p q)

-- a node before and after n of these
unfoldable pub ArePassed : SystemParts → ℕ → PlainProgress → PlainProgress → Type 0
ArePassed s zero p q = q ≡ p
ArePassed s (suc n) p q = (m : PlainProgress) × ArePassed s n p m × IsPassedBy s m q

-- a node that visits have led to where it is
pub record IsReached (s : SystemParts) (p q : PlainProgress) : Type 0 where
  pub visits : ℕ
  pub passed : ArePassed s visits p q

-- a node before and after it was met by a look
abbrev pub IsMetBy : Result PlainSnapshot ViewFault → PlainProgress → PlainProgress → Type 0
IsMetBy (Ok t) p q = q ≡ met_in (read_confs t.reads) p
IsMetBy (Err f) p q = q ≡ with_ending (Fault (fault_of_view f)) p

pub record IsMetAtSome (s : SystemParts) (p q : PlainProgress) : Type 0 where
  pub pass : PlainPass
  pub look : Result PlainSnapshot ViewFault
  pub shown : LooksAtSome s pass p.program.node look
  pub met : IsMetBy look p q

-- a node before and after it was met: it need not be looked at, if its book is known to be of its system
abbrev pub IsMet : SystemParts → PlainProgress → PlainProgress → Type 0
IsMet s p q = (q ≡ p) ⊎ IsMetAtSome s p q

-- an ending that visits gave to the node of a program
pub record IsOwnEnding (s : SystemParts) (attempts : ℕ) (program : Parts) (e : Ending) : Type 0 where
  pub first : PlainProgress
  pub met : IsMet s (progress_at attempts program) first
  pub last : PlainProgress
  pub reached : IsReached s first last
  pub ended : last.ending ≡ Some e

-- the ending of the node of a program, if the system has it: its visits gave it, or memory ran out before they did
abbrev pub IsEndingOf : SystemParts → ℕ → Option Parts → Ending → Type 0
IsEndingOf s attempts None e = e ≡ Fault fault.Unknown
IsEndingOf s attempts (Some p) e = (e ≡ Fault fault.Memory) ⊎ IsOwnEnding s attempts p e

-- the endings of the nodes of these numbers, in their order
abbrev pub AreEndingsOf : SystemParts → ℕ → List Parts → List ℤ → List Ending → Type 0
AreEndingsOf s attempts programs nodes endings =
    (i : ℕ) (k : ℤ) (e : Ending) → slice_get nodes i ≡ Some k → slice_get endings i ≡ Some e →
    IsEndingOf s attempts (program_of k programs) e

-- a node behind its rounds: visits have led to where it is, and it has an ending
pub record IsOver (s : SystemParts) (p q : PlainProgress) : Type 0 where
  pub reached : IsReached s p q
  pub ended : is_some q.ending ≡ true

-- a node as want of memory leaves it: it has no ending, or visits have led to where it is
abbrev pub IsLeft : SystemParts → PlainProgress → PlainProgress → Type 0
IsLeft s p q = (q.ending ≡ None) ⊎ IsReached s p q

-- a node at the end: want of memory ended it, or its visits
abbrev pub IsEnded : SystemParts → PlainProgress → PlainProgress → Type 0
IsEnded s p q = (q.ending ≡ Some (Fault fault.Memory)) ⊎ IsOver s p q

-- a node has no more attempts than these
abbrev pub HasAtMost : ℕ → PlainProgress → Type 0
HasAtMost attempts p = p.attempts ≤ attempts

-- a node of a worker, once it is met: the system has its program by its number
pub record IsBegun (s : SystemParts) (attempts : ℕ) (programs : List Parts) (number : ℤ) (p : PlainProgress) : Type 0
  where
    pub program : Parts
    pub own : program_of number programs ≡ Some program
    pub met : IsMet s (progress_at attempts program) p

-- the same of all nodes of a worker
abbrev pub AreBegun : {O : Type 0} {g : Origin.Ghosts O} → SystemParts → ℕ → List Parts → List (Visited O g) → Type 0
AreBegun s attempts programs nodes =
    AllByRecursion (λ n. IsBegun s attempts programs n.number (progress_in n)) nodes
