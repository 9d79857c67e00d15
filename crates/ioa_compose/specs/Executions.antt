-- Executions, their replay and their projections (Lynch 8.1 and 8.2).
use Rattle.std.specs.Prelude.{◌≡◌, ◌⊎◌, ℕ, List, [], ◌∷◌, ◌++◌, Option, Some, None, Result, Ok, Err, codes, filter}
use Rattle.std.specs.Prelude.{take, slice_get}
use Rattle.std.specs.Fmt.{decimal}
use Rattle.ioa_actions.specs.declared.component.Component.{Component}
use Rattle.ioa_transitions.specs.Entries.{PlainEntry}
use Rattle.ioa_compose.specs.declared.configuration.Conf.{Conf}
use Rattle.ioa_actions.specs.declared.fault.StepFault.{StepFault}
use Rattle.ioa_actions.specs.declared.fault.StepFault.TheVariants.{Memory}
use Rattle.ioa_compose.specs.declared.replaying.ReplayFault.{ReplayFault}
use Rattle.ioa_actions.specs.StepFaults.{step_fault_text}
use Rattle.ioa_compose.specs.Participants.{takes_part}
use Rattle.ioa_compose.specs.Composition.{joint_answer}

-- further steps after a step; none if it is no step
abbrev pub after_step : {C : Type 0} → (C → Option C) → Result C StepFault → Option C
after_step steps (Ok c) = steps c
after_step steps (Err e) = None

-- the configurations after the joint steps by a list of entries, if each entry is a step: a schedule has an execution
-- from the start exactly if there are some (Lynch 8.1)
abbrev pub replay : List PlainEntry → List Conf → Option (List Conf)
replay [] cs = Some cs
replay (e ∷ more) cs = after_step (replay more) (joint_answer e cs)

-- the fault is that of the joint step of an entry, and there is such an entry
abbrev pub IsFaultOf : StepFault → Option PlainEntry → List Conf → Type 0
IsFaultOf f None cs = ⊥
IsFaultOf f (Some e) cs = joint_answer e cs ≡ Err f

-- a replay that stops (profile): the first entries, as many as the position says, replay; the joint step of the next
-- one has this fault, or memory ran out there
pub record StopsAt (start : List Conf) (entries : List PlainEntry) (f : ReplayFault) : Type 0 where
  pub reached : List Conf
  pub before : replay (take f.position entries) start ≡ Some reached
  pub fault : (f.fault ≡ Memory) ⊎ IsFaultOf f.fault (slice_get entries f.position) reached

-- the projection of a list of entries on a component: those in which it takes part (Lynch 8.2)
abbrev pub projection_of : Component → List PlainEntry → List PlainEntry
projection_of k entries = filter (λ e. takes_part k e.action) entries

-- a fault of a replay as text: the step's, and the position of its entry (profile)
abbrev pub replay_fault_text : ReplayFault → List ℕ
replay_fault_text f = step_fault_text f.fault ++ (codes " at " ++ decimal f.position)
