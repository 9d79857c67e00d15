-- Executions of the composition, and their projections on its components.
use Rattle.std.proofs.Common.{◌≡◌, Bool, true, false, List, [], ◌∷◌, Some, Result, Ok, Err, refl, sym, ◌∙◌, subst}
use Rattle.ioa_transitions.specs.Entries.{PlainEntry}
use Rattle.ioa_compose.specs.declared.configuration.Conf.{Conf}
use Rattle.ioa_actions.specs.declared.fault.StepFault.{StepFault}
use Rattle.ioa_compose.specs.Participants.{takes_part}
use Rattle.ioa_compose.specs.Composition.{find_conf, joint_answer}
use Rattle.ioa_compose.specs.Executions.{after_step, replay, projection_of}
use Rattle.ioa_compose.specs.Automata.{IsExecution, ProjectsOnEach}
use Rattle.ioa_compose.specs.Steps.{IsStep}
use Rattle.ioa_compose.specs.JointStep.{IsJointState, TakesStep, IsJointStep, FitsJointStep, HasAnswer}
use Rattle.ioa_compose.proofs.JointSteps.{joint_answer-is}
use Rattle.ioa_compose.proofs.Compositions.{is_joint_step, joint_answer-from, joint_state_after}

-- a replay is an execution by any steps that the runtime's are, if those keep a law of states
pub replay-execution : (T : PlainEntry → List Conf → List Conf → Type 0) (K : List Conf → Type 0) → ((entry : PlainEntry) (s t : List Conf) → K s → joint_answer entry s ≡ Ok t → T entry s t × K t) →
    (entries : List PlainEntry) (start confs : List Conf) → K start → replay entries start ≡ Some confs → IsExecution T start entries confs
replay-execution T K f [] start confs law h = of_some h
  where
    of_some : Some start ≡ Some confs → start ≡ confs
    of_some h = cc
replay-execution T K f (entry ∷ more) start confs law h = at_step (joint_answer entry start) refl h (λ mid kept e. replay-execution T K f more mid confs kept e)
  where
    at_step : (r : Result (List Conf) StepFault) → joint_answer entry start ≡ r → after_step (replay more) r ≡ Some confs → ((mid : List Conf) → K mid → replay more mid ≡ Some confs → IsExecution T mid more confs) → IsExecution T start (entry ∷ more) confs
    at_step (Ok mid) e h further = let step = f entry start mid law e in (mid, step.0, further mid step.1 h)
    at_step (Err f) e h further = absurd (cc)

-- a replay from a state is an execution of the composition
pub replays : (entries : List PlainEntry) (start confs : List Conf) → IsJointState start → replay entries start ≡ Some confs → IsExecution (IsJointStep IsStep) start entries confs
replays = replay-execution (IsJointStep IsStep) IsJointState (λ entry s t state h. let step = (is_joint_step entry s t state h).0 in (step, joint_state_after entry s t state step))

-- an execution from a state is a replay if every number met lies within 64 bits
pub replays-from : (entries : List PlainEntry) (start confs : List Conf) → IsJointState start → IsExecution (λ entry s t. IsJointStep IsStep entry s t × FitsJointStep entry s) start entries confs → replay entries start ≡ Some confs
replays-from [] start confs state h = rw h refl
replays-from (entry ∷ more) start confs state h =
    let step : joint_answer entry start ≡ Ok h.0 = joint_answer-from entry start h.0 state h.1.0 h.1.1 in
    rw step (replays-from more h.0 confs (joint_state_after entry start h.0 state h.1.0) h.2)

-- an execution of a composition, projected on a component, is one of that component
pub projects : (step : PlainEntry → Conf → Conf → Type 0) (entries : List PlainEntry) (start confs : List Conf) → IsExecution (IsJointStep step) start entries confs → ProjectsOnEach step start entries confs
projects step [] start confs h k c found = (c, rw (← h) found, refl)
projects step (entry ∷ more) start confs h k c found = at_part (takes_part k entry.action) refl (λ d e. projects step more h.0 confs h.2 k d e)
  where
    Projected : List PlainEntry → Conf → Type 0
    Projected entries c = (d : Conf) × (find_conf k confs ≡ Some d) × IsExecution step c (projection_of k entries) d

    of_some : (x y : Conf) → Some x ≡ Some y → x ≡ y
    of_some x y h = cc

    own : TakesStep step entry k start h.0 → takes_part k entry.action ≡ true → ((d : Conf) → find_conf k h.0 ≡ Some d → Projected more d) → Projected (entry ∷ more) c
    own t part further =
        let end : Projected more t.new = further t.new t.after in
        let same_old : t.old ≡ c = of_some t.old c (sym t.before ∙ found) in
        (end.0, end.1, rw part (t.new, subst (λ (x : Conf). step entry x t.new) same_old t.step_of, end.2))

    at_part : (t : Bool) → takes_part k entry.action ≡ t → ((d : Conf) → find_conf k h.0 ≡ Some d → Projected more d) → Projected (entry ∷ more) c
    at_part true part further = own (h.1.participants k part) part further
    at_part false part further =
        let end : Projected more c = further c (h.1.others k part ∙ found) in
        (end.0, end.1, rw part end.2)

-- a replay, projected on a component, is one of the steps that the runtime finds for that component
pub replay_projects : (entries : List PlainEntry) (start confs : List Conf) → replay entries start ≡ Some confs → ProjectsOnEach HasAnswer start entries confs
replay_projects entries start confs h = projects HasAnswer entries start confs (replay-execution (IsJointStep HasAnswer) (λ s. Unit {0}) (λ entry s t law e. (joint_answer-is entry s t e, tt)) entries start confs tt h)
