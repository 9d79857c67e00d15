-- What an attempt of a node comes to, and what is told of it (profile).
use Rattle.std.specs.Prelude.{◌≡◌, ℕ, ◌-◌, true, if◌then◌else◌, List, [], ◌∷◌, ◌++◌}
use Rattle.std.specs.Prelude.{Option, Some, None, is_some, Result, Ok, Err}
use Rattle.ioa_values.specs.Data.{Data}
use Rattle.ioa_actions.specs.declared.action.Action.{Action}
use Rattle.ioa_actions.specs.declared.fault.StepFault.{StepFault}
use Rattle.ioa_terms.specs.declared.tree.Kind.{Kind}
use Rattle.ioa_transitions.specs.Entries.{PlainEntry}
use Rattle.ioa_compose.specs.declared.configuration.Conf.{Conf}
use Rattle.ioa_commits.specs.Proposals.{PlainProposal}
use Rattle.ioa_commits.specs.Versions.{read_confs}
use Rattle.ioa_book.specs.Looks.{PlainSnapshot, snapshot_after}
use Rattle.ioa_book.specs.Proposals.{proposal_answer}
use Rattle.ioa_record.specs.declared.ending.Ending.TheVariants.{Done, Spent, Fault}
use Rattle.ioa_record.specs.declared.ending.NodeFault.{NodeFault}
use Rattle.ioa_record.specs.declared.ending.NodeFault.TheVariants.{Full}
use Rattle.ioa_schedules.specs.Turns.{TurnEnd, fires, idle, done}
use Rattle.ioa_turns.specs.Faults.{fault_of_step}
use Rattle.ioa_turns.specs.Fired.{action_fired}
use Rattle.ioa_turns.specs.NodeTurns.{PlainProgress, past_fire, turn_at, with_ending}
use Rattle.ioa_tell.specs.Marks as mark
use Rattle.ioa_tell.specs.Marks.{Mark}

-- a node that fires an action which has no step on what a look reads: one that is not enabled is missed, and the block
-- moves past it; any other fault ends the node
pub data IsAfterFault (look : PlainSnapshot) (p q : PlainProgress) (a : Action) (did : List Mark) : Type 0 where
  misses : q ≡ past_fire p → did ≡ mark.missed a ∷ [] → IsAfterFault look p q a did
  fails : (f : StepFault) (g : NodeFault) → proposal_answer a look ≡ Err f → fault_of_step f ≡ Some g →
      q ≡ with_ending (Fault g) p → did ≡ [] → IsAfterFault look p q a did

-- a node that fires an action after these entries of a schedule: it is taken, and the block moves past it; it has no
-- step; or the whole schedule was taken, and the node ends, for it is full
pub data IsAfterFire (look : PlainSnapshot) (schedule log : List PlainEntry) (p q : PlainProgress) (a : Action)
    (did : List Mark) : Type 0 where
  takes : (e : PlainEntry) → e.action ≡ a → q ≡ past_fire p → did ≡ mark.took e ∷ [] →
      IsAfterFire look schedule log p q a did
  refused : IsAfterFault look p q a did → IsAfterFire look schedule log p q a did
  over : (x : PlainProposal) → proposal_answer a look ≡ Ok x → log ≡ schedule → q ≡ with_ending (Fault Full) p →
      did ≡ [] → IsAfterFire look schedule log p q a did

-- the turn of a node, on what a look at it reads after these entries
abbrev pub turn_after : List Conf → List PlainEntry → PlainProgress → Result (TurnEnd × PlainProgress) NodeFault
turn_after start log p = turn_at (read_confs (snapshot_after p.program.node start log).reads) p

-- an attempt of a node: its turn fires an action, is idle, finds that the block is done, or meets a fault
pub data IsAttempt (start : List Conf) (schedule log : List PlainEntry) (p q : PlainProgress) (did : List Mark) : Type 0
  where
    fires_one : (k : Option Kind) (w : List ℕ) (vs : List Data) (r : PlainProgress) →
        turn_after start log p ≡ Ok (fires k w vs, r) →
        IsAfterFire (snapshot_after p.program.node start log) schedule log r q (action_fired p.program w vs) did →
        IsAttempt start schedule log p q did
    waits : turn_after start log p ≡ Ok (idle, q) → did ≡ mark.waited p.program.node ∷ [] →
        IsAttempt start schedule log p q did
    comes_to_end : (r : PlainProgress) → turn_after start log p ≡ Ok (done, r) → q ≡ with_ending Done r → did ≡ [] →
        IsAttempt start schedule log p q did
    is_stuck : (f : NodeFault) → turn_after start log p ≡ Err f → q ≡ with_ending (Fault f) p → did ≡ [] →
        IsAttempt start schedule log p q did

-- a node with one attempt less
abbrev pub with_one_less : PlainProgress → PlainProgress
with_one_less p = record p { attempts = p.attempts - 1 }

-- a node that has no ending is spent, if no attempt is left; else it makes one
pub data IsTried (start : List Conf) (schedule log : List PlainEntry) (p q : PlainProgress) (did : List Mark) : Type 0
  where
    is_spent : p.attempts ≡ 0 → q ≡ with_ending Spent p → did ≡ [] → IsTried start schedule log p q did
    attempts : (p.attempts ≡ 0 → ⊥) → IsAttempt start schedule log (with_one_less p) q did →
        IsTried start schedule log p q did

-- what is told of a node that has an ending: that it stopped
abbrev pub stops : PlainProgress → List Mark
stops p = if is_some p.ending then mark.stopped p.program.node ∷ [] else []

-- what is told of a node that has no ending once memory ran out: that it stopped
abbrev pub stops_without : PlainProgress → List Mark
stops_without p = if is_some p.ending then [] else mark.stopped p.program.node ∷ []

-- a visit of a node: nothing is told of one that had an ending before, and of any other what it tried, and then that it
-- stopped, if it did
pub data IsVisit (start : List Conf) (schedule log : List PlainEntry) (p q : PlainProgress) (did : List Mark) : Type 0
  where
    had_ended : is_some p.ending ≡ true → q ≡ p → did ≡ [] → IsVisit start schedule log p q did
    tries : p.ending ≡ None → (tried : List Mark) → IsTried start schedule log p q tried → did ≡ tried ++ stops q →
        IsVisit start schedule log p q did
