-- What is told is true of a schedule (Lynch 8.1 and 8.2).
use Rattle.std.specs.Prelude.{◌≡◌, ℕ, ◌+◌, List, [], ◌∷◌, ◌++◌, length, map, Option, Some, Ok, Err}
use Rattle.ioa_actions.specs.ActionParts.{node_of}
use Rattle.ioa_actions.specs.declared.action.Action.{Action}
use Rattle.ioa_actions.specs.declared.component.Component.TheVariants.{Node}
use Rattle.ioa_actions.specs.declared.fault.StepFault.TheVariants.{NotEnabled}
use Rattle.ioa_commits.specs.Books.{PlainBook, states_after}
use Rattle.ioa_compose.specs.Composition.{find_conf, joint_answer, joint_pick}
use Rattle.ioa_compose.specs.Participants.{participants_of}
use Rattle.ioa_compose.specs.Start.{start}
use Rattle.ioa_compose.specs.declared.configuration.Conf.{Conf}
use Rattle.ioa_record.specs.declared.ending.Ending.{Ending}
use Rattle.ioa_system.specs.Systems.{SystemParts}
use Rattle.ioa_transitions.specs.Entries.{PlainEntry}
use Rattle.ioa_turns.specs.NodeTurns.{progress_at}
use Rattle.ioa_reasons.specs.Faulted.{IsFaulted}
use Rattle.ioa_reasons.specs.PlainReasons.{PlainReason}
use Rattle.ioa_reasons.specs.Reasons.{IsReason, queue_among}
use Rattle.ioa_reasons.specs.Stuck.{IsStuckTold}
use Rattle.ioa_reasons.specs.Tests.{IsNodeReason}
use Rattle.ioa_reasons.specs.Unfit.{IsUnfit}
use Rattle.ioa_tell.specs.Events.{PlainEvent, taken, missed, faulted, unfit, stuck, idle, stopped, ended}
use Rattle.ioa_tell.specs.Marks.{Mark, marks_of}
use Rattle.ioa_tell.specs.Visits.{AreVisited, PlainRound, cut_off, ended_as}

-- an action that is taken in these configurations and leads to those (Lynch 8.2): it is told of its node how it was
-- before and how it is after, and of its queue how it is after
pub record IsTakenFrom (cs next : List Conf) (e : PlainEntry) (was is : Conf) (beside : Option Conf) : Type 0
  where
    pub step : joint_answer e cs ≡ Ok next
    pub before : find_conf (Node (node_of e.action)) cs ≡ Some was
    pub after : find_conf (Node (node_of e.action)) next ≡ Some is
    pub queue : queue_among (participants_of e.action) next ≡ beside

-- an action that is not enabled in these configurations, for a reason that is true of its queue and of its node there
pub record IsMissedIn (cs : List Conf) (a : Action) (r : PlainReason) : Type 0 where
  pub not_enabled : joint_pick a cs ≡ Err NotEnabled
  pub reason : IsReason (queue_among (participants_of a) cs) a r
  pub test : IsNodeReason (find_conf (Node (node_of a)) cs) a r

-- events that go along a schedule, from its entries so far to those at last, and are true of it: each bears the number
-- of the entries so far, an action that is taken is the next entry, and no other event takes one
abbrev pub AreTold : List Conf → List PlainEntry → List PlainEvent → List PlainEntry → Type 0
AreTold start log [] last = log ≡ last
AreTold start log (taken k e before after queue ∷ more) last =
    (k ≡ length log)
    × IsTakenFrom (states_after start log) (states_after start (log ++ e ∷ [])) e before after queue
    × AreTold start (log ++ e ∷ []) more last
AreTold start log (missed k a r ∷ more) last =
    (k ≡ length log) × IsMissedIn (states_after start log) a r × AreTold start log more last
AreTold start log (faulted k a place f ∷ more) last =
    (k ≡ length log) × IsFaulted (find_conf (Node (node_of a)) (states_after start log)) a place f
    × AreTold start log more last
AreTold start log (unfit k a w v ∷ more) last =
    (k ≡ length log) × IsUnfit (find_conf (Node (node_of a)) (states_after start log)) a w v
    × AreTold start log more last
AreTold start log (stuck k n place f ∷ more) last =
    (k ≡ length log) × IsStuckTold n start log place f × AreTold start log more last
AreTold start log (idle k n ∷ more) last = (k ≡ length log) × AreTold start log more last
AreTold start log (stopped k n ∷ more) last = (k ≡ length log) × AreTold start log more last
AreTold start log (ended n e ∷ more) last = ⊥

-- who is told so many events, one after another
abbrev pub AreHeard : {S : Type 0} → (PlainEvent → S → S → Type 0) → List PlainEvent → S → S → Type 0
AreHeard hears [] old new = old ≡ new
AreHeard {S} hears (e ∷ more) old new = (s : S) × hears e old s × AreHeard hears more s new

-- a book on which some entries of a schedule were taken once more, of which these were left before and those are left
-- now; what was told meanwhile is true, and says this of attempts
pub record TellsOn {S : Type 0} (hears : PlainEvent → S → S → Type 0) (old new : PlainBook)
    (left rest : List PlainEntry) (had has : S) (did : List Mark) : Type 0 where
  pub start : new.start ≡ old.start
  pub schedule : new.log ++ rest ≡ old.log ++ left
  pub events : List PlainEvent
  pub heard : AreHeard hears events had has
  pub told : AreTold old.start old.log events new.log
  pub marked : marks_of events ≡ did

-- the same, where what is said of attempts is so
pub record TellsSuch {S : Type 0} (hears : PlainEvent → S → S → Type 0) (old new : PlainBook)
    (left rest : List PlainEntry) (had has : S) (such : List Mark → Type 0) : Type 0 where
  pub did : List Mark
  pub tells : TellsOn hears old new left rest had has did
  pub is : such did

-- the endings, counted from i
abbrev pub endings_told : ℕ → List Ending → List PlainEvent
endings_told i [] = []
endings_told i (e ∷ more) = ended i e ∷ endings_told (i + 1) more

-- the nodes of a system before a run, each with so many attempts: it is the first one's turn
abbrev pub first_round : ℕ → SystemParts → PlainRound
first_round attempts s = record { turn = 0; nodes = map (progress_at attempts) s.programs }

-- a run of a system that is told, with so many attempts for each node: what goes along its schedule from the start, and
-- then the endings; of the visits of the nodes, round by round, all is told until each node has ended as is recorded,
-- so that no attempt is left out; but nothing of those that the run may not have made since memory ran out
pub record TellsRun {S : Type 0} (hears : PlainEvent → S → S → Type 0) (s : SystemParts) (attempts : ℕ)
    (schedule : List PlainEntry) (endings : List Ending) (had has : S) : Type 0 where
  pub events : List PlainEvent
  pub told : AreTold (start s) [] events schedule
  pub heard : AreHeard hears (events ++ endings_told 0 endings) had has
  pub last : PlainRound
  pub did : List Mark
  pub visited : AreVisited (start s) schedule endings [] (first_round attempts s) last did
  pub ended : map ended_as last.nodes ≡ endings
  pub marked : marks_of events ≡ did ++ cut_off last.nodes
