-- What is answered of lines means what it says.
use Rattle.std.proofs.Common.{◌≡◌, ℕ, suc, ◌+◌, List, [], ◌∷◌, Some, Result, Ok, Err, refl, ap, sym, subst, ◌∙◌, arith}
use Rattle.std.specs.Prelude.{IfOk, slice_get, take}
use Rattle.ioa_values.specs.Outcome.{Answers}
use Rattle.ioa_actions.specs.declared.fault.StepFault.{StepFault}
use Rattle.ioa_actions.specs.declared.fault.StepFault.TheVariants as step
use Rattle.ioa_transitions.specs.Entries.{PlainEntry}
use Rattle.ioa_system.specs.Systems.{SystemParts}
use Rattle.ioa_compose.specs.declared.configuration.Conf.{Conf}
use Rattle.ioa_compose.specs.Composition.{joint_answer}
use Rattle.ioa_compose.specs.Executions.{after_step, replay}
use Rattle.ioa_compose.specs.Start.{start}
use Rattle.ioa_lines.specs.Lines as lines
use Rattle.ioa_lines.specs.Lines.{lines_answer, lines_of}
use Rattle.ioa_lines.specs.declared.fault.LineFault.{LineFault}
use Rattle.ioa_lines.specs.declared.fault.LineFault.TheVariants as line
use Rattle.ioa_lines.proofs.LinesLaw.{bad_sound, entries_complete, entries_sound}
use Rattle.ioa_schedule_check.specs.declared.fault.ScheduleFault.{ScheduleFault}
use Rattle.ioa_schedule_check.specs.declared.fault.ScheduleFault.TheVariants.{Memory, BadLine}
use Rattle.ioa_schedule_check.specs.Schedules.{IsExecutionSpelled, IsRefusedAs, StopsAtStep, after_step_at, fault_at}
use Rattle.ioa_schedule_check.specs.Schedules.{schedule_answer, steps_answer, steps_of_lines}

-- a schedule that replays from a state
pub record Replays (entries : List PlainEntry) (cs : List Conf) : Type 0 where
  pub states : List Conf
  pub replayed : replay entries cs ≡ Some states

-- steps without a fault are a replay
steps_replay : (k : ℕ) (entries : List PlainEntry) (cs : List Conf) → steps_answer k entries cs ≡ Ok tt → Replays entries cs
steps_replay k [] cs h = record { states = cs; replayed = refl }
steps_replay k (x ∷ more) cs h =
    by_step (joint_answer x cs) refl h (λ next g. steps_replay (k + 1) more next g)
  where
    by_step : (r : Result (List Conf) StepFault) → joint_answer x cs ≡ r
        → after_step_at k (steps_answer (k + 1) more) r ≡ Ok tt
        → ((next : List Conf) → steps_answer (k + 1) more next ≡ Ok tt → Replays more next) → Replays (x ∷ more) cs
    by_step (Ok next) e g further =
        let rest : Replays more next = further next g in
        record { states = rest.states; replayed = rw e rest.replayed }
    by_step (Err f) e g further = absurd (cc)

-- and a replay has steps without a fault
replay_steps : (k : ℕ) (entries : List PlainEntry) (cs states : List Conf) → replay entries cs ≡ Some states
    → steps_answer k entries cs ≡ Ok tt
replay_steps k [] cs states h = refl
replay_steps k (x ∷ more) cs states h =
    by_step (joint_answer x cs) h (λ next g. replay_steps (k + 1) more next states g)
  where
    by_step : (r : Result (List Conf) StepFault) → after_step (replay more) r ≡ Some states
        → ((next : List Conf) → replay more next ≡ Some states → steps_answer (k + 1) more next ≡ Ok tt)
        → after_step_at k (steps_answer (k + 1) more) r ≡ Ok tt
    by_step (Ok next) g further = further next g
    by_step (Err f) g further = absurd (cc)

-- steps from a place on have a fault: so many of them replay, and the next one has it
pub record Stops (k : ℕ) (entries : List PlainEntry) (cs : List Conf) (f : ScheduleFault) : Type 0 where
  pub many : ℕ
  pub states : List Conf
  pub before : replay (take many entries) cs ≡ Some states
  pub entry : PlainEntry
  pub next : slice_get entries many ≡ Some entry
  pub why : StepFault
  pub fault : joint_answer entry states ≡ Err why
  pub told : f ≡ fault_at (k + many) why

pub steps_stop : (k : ℕ) (entries : List PlainEntry) (cs : List Conf) (f : ScheduleFault) → steps_answer k entries cs ≡ Err f
    → Stops k entries cs f
steps_stop k [] cs f h = absurd (cc)
steps_stop k (x ∷ more) cs f h =
    by_step (joint_answer x cs) refl h (λ next g. steps_stop (k + 1) more next f g)
  where
    by_step : (r : Result (List Conf) StepFault) → joint_answer x cs ≡ r
        → after_step_at k (steps_answer (k + 1) more) r ≡ Err f
        → ((next : List Conf) → steps_answer (k + 1) more next ≡ Err f → Stops (k + 1) more next f)
        → Stops k (x ∷ more) cs f
    by_step (Ok next) e g further =
        let rest : Stops (k + 1) more next f = further next g in
        let place : k + 1 + rest.many ≡ k + suc rest.many = omega arith in
        record {
          many = suc rest.many;
          states = rest.states;
          before = rw e rest.before;
          entry = rest.entry;
          next = rest.next;
          why = rest.why;
          fault = rest.fault;
          told = rest.told ∙ ap (λ n. fault_at n rest.why) place;
        }
    by_step (Err w) e g further =
        let here : fault_at k w ≡ f = cc in
        let place : k ≡ k + 0 = omega arith in
        record {
          many = 0;
          states = cs;
          before = refl;
          entry = x;
          next = refl;
          why = w;
          fault = e;
          told = sym here ∙ ap (λ n. fault_at n w) place;
        }

-- what the fault of a step says of the lines
refused_by : (s : SystemParts) (text : List ℕ) (k : ℕ) (w : StepFault) → StopsAtStep s text k w
    → IsRefusedAs (fault_at k w) s text
refused_by s text k step.Undefined stops = stops
refused_by s text k step.Range stops = stops
refused_by s text k step.Memory stops = tt
refused_by s text k step.NotEnabled stops = (step.NotEnabled, refl, stops)
refused_by s text k step.NotMine stops = (step.NotMine, refl, stops)
refused_by s text k step.NoChannel stops = (step.NoChannel, refl, stops)
refused_by s text k step.NoChoice stops = (step.NoChoice, refl, stops)

-- lines are accepted if they spell an execution, and only then
pub accepted : (s : SystemParts) (text : List ℕ) → schedule_answer s text ≡ Ok tt → IsExecutionSpelled s text
unfolding lines.entries_left schedule_answer
accepted s text h = by_lines (lines_answer s text) refl h
  where
    by_lines : (r : Result (List PlainEntry) LineFault) → lines_answer s text ≡ r → steps_of_lines 0 (start s) r ≡ Ok tt
        → IsExecutionSpelled s text
    by_lines (Ok entries) e g =
        let done : Replays entries (start s) = steps_replay 0 entries (start s) g in
        record { entries = entries; spelled = entries_sound s (lines_of text) 0 entries e; states = done.states; replayed = done.replayed }
    by_lines (Err f) e g = absurd (cc)

pub accepted_if : (s : SystemParts) (text : List ℕ) (r : Result (Unit {0}) ScheduleFault)
    → Answers Memory (λ (u : Unit {0}). u) r (schedule_answer s text) → IfOk r (λ _. IsExecutionSpelled s text)
accepted_if s text (Ok x) h = accepted s text h
accepted_if s text (Err f) h = tt

pub found : (s : SystemParts) (text : List ℕ) → IsExecutionSpelled s text → schedule_answer s text ≡ Ok tt
unfolding lines.entries_left schedule_answer
found s text h =
    let read : lines_answer s text ≡ Ok h.entries = entries_complete h.spelled 0 in
    rw read (replay_steps 0 h.entries (start s) h.states h.replayed)

-- a refusal stands at the first place at which there is one
pub refused : (s : SystemParts) (text : List ℕ) (f : ScheduleFault) → schedule_answer s text ≡ Err f
    → IsRefusedAs f s text
unfolding lines.entries_left schedule_answer
refused s text f h = by_lines (lines_answer s text) refl h
  where
    by_lines : (r : Result (List PlainEntry) LineFault) → lines_answer s text ≡ r → steps_of_lines 0 (start s) r ≡ Err f
        → IsRefusedAs f s text
    by_lines (Ok entries) e g =
        let stops : Stops 0 entries (start s) f = steps_stop 0 entries (start s) f g in
        let place : 0 + stops.many ≡ stops.many = omega arith in
        let told : fault_at stops.many stops.why ≡ f = sym (stops.told ∙ ap (λ n. fault_at n stops.why) place) in
        subst (λ (x : ScheduleFault). IsRefusedAs x s text) told
        (refused_by s text stops.many stops.why
        (record {
          entries = entries;
          spelled = entries_sound s (lines_of text) 0 entries e;
          states = stops.states;
          before = stops.before;
          entry = stops.entry;
          next = stops.next;
          fault = stops.fault;
        }))
    by_lines (Err (line.BadLine k)) e g =
        let told : BadLine k ≡ f = cc in
        subst (λ (x : ScheduleFault). IsRefusedAs x s text) told (bad_sound s (lines_of text) k e)
    by_lines (Err line.Memory) e g =
        let told : Memory ≡ f = cc in
        subst (λ (x : ScheduleFault). IsRefusedAs x s text) told tt
