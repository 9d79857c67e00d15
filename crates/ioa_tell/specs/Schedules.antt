-- A schedule that is given, told step by step, and then the entry that is no step (Lynch 8.1 and 8.2).
use Rattle.std.specs.Prelude.{◌≡◌, ⊤, ℕ, List, [], length, Option, Some, None, Err}
use Rattle.std.specs.List.{AllByRecursion}
use Rattle.ioa_actions.specs.ActionParts.{node_of}
use Rattle.ioa_actions.specs.declared.component.Component.TheVariants.{Node}
use Rattle.ioa_actions.specs.declared.fault.StepFault.{StepFault}
use Rattle.ioa_actions.specs.declared.fault.StepFault.TheVariants.{NotEnabled, NotMine}
use Rattle.ioa_commits.specs.Books.{states_after}
use Rattle.ioa_compose.specs.Composition.{find_conf, joint_answer}
use Rattle.ioa_compose.specs.Executions.{replay}
use Rattle.ioa_compose.specs.Participants.{participants_of}
use Rattle.ioa_compose.specs.Start.{start}
use Rattle.ioa_compose.specs.declared.configuration.Conf.{Conf}
use Rattle.ioa_system.specs.Systems.{SystemParts}
use Rattle.ioa_transitions.specs.Entries.{PlainEntry}
use Rattle.ioa_reasons.specs.Faulted.{IsFaulted}
use Rattle.ioa_reasons.specs.OtherConsts.{IsOtherConst}
use Rattle.ioa_reasons.specs.Reasons.{IsReason, queue_among}
use Rattle.ioa_reasons.specs.Tests.{IsNodeReason}
use Rattle.ioa_reasons.specs.Unfit.{IsUnfit}
use Rattle.ioa_tell.specs.Events.{PlainEvent, taken, missed, faulted, unfit, stuck, idle, stopped, ended}
use Rattle.ioa_tell.specs.Refusals as refusal
use Rattle.ioa_tell.specs.Refusals.{PlainRefusal}
use Rattle.ioa_tell.specs.Told.{AreHeard, AreTold, IsTakenFrom}

-- an event says that an action was taken
abbrev pub IsTake : PlainEvent → Type 0
IsTake (taken k e before after queue) = ⊤
IsTake (missed k a r) = ⊥
IsTake (faulted k a place f) = ⊥
IsTake (unfit k a w v) = ⊥
IsTake (stuck k n place f) = ⊥
IsTake (idle k n) = ⊥
IsTake (stopped k n) = ⊥
IsTake (ended n e) = ⊥

-- the step by an entry is told as taken, behind so many, that led to these configurations, and whose node was so before
pub record HearsTakenTo {S : Type 0} (hears : PlainEvent → S → S → Type 0) (next : List Conf) (k : ℕ) (e : PlainEntry)
    (was : Conf) (had has : S) : Type 0 where
  pub after : Conf
  pub found : find_conf (Node (node_of e.action)) next ≡ Some after
  pub heard : hears (taken k e was after (queue_among (participants_of e.action) next)) had has

-- the same of a step that leads from these configurations to those
pub record HearsStep {S : Type 0} (hears : PlainEvent → S → S → Type 0) (cs next : List Conf) (k : ℕ) (e : PlainEntry)
    (had has : S) : Type 0 where
  pub before : Conf
  pub after : Conf
  pub step : IsTakenFrom cs next e before after (queue_among (participants_of e.action) next)
  pub heard : hears (taken k e before after (queue_among (participants_of e.action) next)) had has

-- the steps by entries are told, one after another and nothing else: they lead from these configurations to those
pub record HearsSteps {S : Type 0} (hears : PlainEvent → S → S → Type 0) (cs next : List Conf)
    (entries : List PlainEntry) (had has : S) : Type 0 where
  pub replayed : replay entries cs ≡ Some next
  pub events : List PlainEvent
  pub told : AreTold cs [] events entries
  pub takes : AllByRecursion IsTake events
  pub heard : AreHeard hears events had has

-- what a refusal says of an entry from these configurations, if its joint step has this fault: that its action is not
-- enabled, for a reason that is true of its queue and of its node; or a part at which its step stops; or an argument
-- that is not of its sort; or that its node has no such action, and an argument that is another value than its `const`;
-- or the fault alone
abbrev pub IsToldOf : List Conf → PlainEntry → StepFault → PlainRefusal → Type 0
IsToldOf cs e f (refusal.missed r) =
    (f ≡ NotEnabled) × IsReason (queue_among (participants_of e.action) cs) e.action r
    × IsNodeReason (find_conf (Node (node_of e.action)) cs) e.action r
IsToldOf cs e f (refusal.faulted place stop) = IsFaulted (find_conf (Node (node_of e.action)) cs) e.action place stop
IsToldOf cs e f (refusal.unfit w v) = IsUnfit (find_conf (Node (node_of e.action)) cs) e.action w v
IsToldOf cs e f (refusal.other_const o) =
    (f ≡ NotMine) × IsOtherConst (find_conf (Node (node_of e.action)) cs) e.action o
IsToldOf cs e f (refusal.plain g) = g ≡ f

-- an entry is no step from these configurations, since its joint step has a fault, of which a refusal says more
pub record IsRefusalIn (cs : List Conf) (e : PlainEntry) (r : PlainRefusal) : Type 0 where
  pub fault : StepFault
  pub no_step : joint_answer e cs ≡ Err fault
  pub told : IsToldOf cs e fault r

-- an entry that is no step from these configurations is told, behind so many that are, with a refusal that is true
pub record HearsRefused {S : Type 0} (refuses : ℕ → PlainEntry → PlainRefusal → S → S → Type 0) (cs : List Conf) (k : ℕ)
    (e : PlainEntry) (had has : S) : Type 0 where
  pub refusal : PlainRefusal
  pub is : IsRefusalIn cs e refusal
  pub heard : refuses k e refusal had has

-- the same, if there is such an entry; else nothing is told
abbrev pub HearsRefusedIf : {S : Type 0} → (ℕ → PlainEntry → PlainRefusal → S → S → Type 0) → List Conf → ℕ
    → Option PlainEntry → S → S → Type 0
HearsRefusedIf refuses cs k None had has = had ≡ has
HearsRefusedIf refuses cs k (Some e) had has = HearsRefused refuses cs k e had has

-- a schedule of a system that is told: its steps from the start, one after another and nothing else, and then the entry
-- that is no step from the state that they leave, if there is one
pub record TellsSchedule {S : Type 0} (hears : PlainEvent → S → S → Type 0)
    (refuses : ℕ → PlainEntry → PlainRefusal → S → S → Type 0) (s : SystemParts) (entries : List PlainEntry)
    (refused : Option PlainEntry) (had has : S) : Type 0 where
  pub events : List PlainEvent
  pub told : AreTold (start s) [] events entries
  pub takes : AllByRecursion IsTake events
  pub mid : S
  pub heard : AreHeard hears events had mid
  pub refusal : HearsRefusedIf refuses (states_after (start s) entries) (length entries) refused mid has
