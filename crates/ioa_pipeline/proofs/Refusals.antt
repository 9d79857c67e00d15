-- What faults of a text's system say, as faults of what is done with the system.
use Rattle.std.proofs.Common.{◌≡◌, ◌⊎◌, ◌≤◌, inl, inr, ℕ, List, Result, Ok, Err, ap, length, refl}
use Rattle.std.specs.Prelude.{IfErr, IfOk}
use Rattle.ioa_text_reader.specs.declared.fault.FrontFault.{FrontFault}
use Rattle.ioa_text_reader.specs.Texts.{length_limit}
use Rattle.ioa_sections.specs.declared.fault.CheckFault.{CheckFault}
use Rattle.ioa_held.specs.declared.finish.FinishFault.{FinishFault}
use Rattle.ioa_held.specs.declared.finish.FinishFault.TheVariants as finish
use Rattle.ioa_schedule_check.specs.declared.fault.ScheduleFault.{ScheduleFault}
use Rattle.ioa_schedule_check.specs.declared.fault.ScheduleFault.TheVariants as schedule
use Rattle.ioa_pipeline.specs.declared.described.SystemFault.{SystemFault}
use Rattle.ioa_pipeline.specs.declared.described.SystemFault.TheVariants as system
use Rattle.ioa_pipeline.specs.declared.schedule_check.CheckScheduleFault.{CheckScheduleFault}
use Rattle.ioa_pipeline.specs.declared.schedule_check.CheckScheduleFault.TheVariants as check
use Rattle.ioa_pipeline.specs.declared.whole_run.RunFault.{RunFault}
use Rattle.ioa_pipeline.specs.Described.{IsExactBy, IsFaultOfText}
use Rattle.ioa_pipeline.specs.WholeRun.{IsEarly, IsExactFor, IsFaultOfWorkers, IsRefusalOf, run_fault_of_finish, run_fault_of_system}
use Rattle.ioa_system.specs.Systems.{SystemParts}
use Rattle.ioa_schedule_check.specs.Schedules.{IsExecutionSpelled, schedule_answer}
use Rattle.ioa_pipeline.specs.Described.{IsDescribed}
use Rattle.ioa_pipeline.specs.ScheduleChecks.{IsEarlyCheck, IsExactForCheck, IsExecutionOfText, IsFaultBefore, IsFaultIn, IsFaultOfCheck}
use Rattle.ioa_pipeline.specs.ScheduleChecks.{check_fault_of_schedule, check_fault_of_system}

-- as faults of a run
pub run_refused : (text : List ℕ) (e : SystemFault) (f : RunFault) → IsFaultOfText e text → f ≡ run_fault_of_system e
    → IsRefusalOf f text
run_refused text (system.Front e) f h is = rw is h
run_refused text (system.Check e) f h is = rw is h
run_refused text system.Memory f h is = rw is tt

pub run_early : (e : SystemFault) (f : RunFault) → f ≡ run_fault_of_system e → IsEarly f
run_early (system.Front e) f is = rw is tt
run_early (system.Check e) f is = rw is tt
run_early system.Memory f is = rw is tt

pub run_calm : (workers : ℕ) (e : SystemFault) (f : RunFault) → f ≡ run_fault_of_system e → IsFaultOfWorkers workers f
run_calm workers (system.Front e) f is = rw is tt
run_calm workers (system.Check e) f is = rw is tt
run_calm workers system.Memory f is = rw is tt

-- a fault of finishing with so many workers
pub finish_calm : (workers : ℕ) (e : FinishFault) (f : RunFault) → f ≡ run_fault_of_finish e
    → (workers ≡ 1 → e ≡ finish.Memory) → (e ≡ finish.SharesMissing → ⊥) → (e ≡ finish.Foreign → ⊥)
    → IsFaultOfWorkers workers f
finish_calm workers finish.Foreign f is one there own = absurd (own refl)
finish_calm workers finish.SharesMissing f is one there own = absurd (there refl)
finish_calm workers finish.Memory f is one there own = rw is tt
finish_calm workers finish.Unaccounted f is one there own =
    rw is ((λ w. let bad : finish.Unaccounted ≡ finish.Memory = one w in absurd (cc)), refl)

-- a fault that is always found is passed on, whatever name it gets
passed : {F : Type 0} (name : SystemFault → F) (text : List ℕ) (e : SystemFault) (x : FrontFault)
    → (e ≡ system.Front x) ⊎ ((e ≡ system.Memory) × (length text ≤ length_limit))
    → (name e ≡ name (system.Front x)) ⊎ ((name e ≡ name system.Memory) × (length text ≤ length_limit))
passed name text e x (inl is) = inl (ap name is)
passed name text e x (inr (is, short)) = inr (ap name is, short)

refusal_passed : {F : Type 0} (name : SystemFault → F) (e : SystemFault) (x : CheckFault)
    → (e ≡ system.Check x) ⊎ (e ≡ system.Memory)
    → (name e ≡ name (system.Check x)) ⊎ (name e ≡ name system.Memory)
refusal_passed name e x (inl is) = inl (ap name is)
refusal_passed name e x (inr is) = inr (ap name is)

pub run_exact : {S T : Type 0} (text : List ℕ) (e : SystemFault) (f : RunFault)
    → IsExactBy {T = S} system.Front system.Check system.Memory (Err e) text → f ≡ run_fault_of_system e
    → IsExactFor {T = T} (Err f) text
run_exact text e f h is = record {
  reading = λ x found stands. rw is (passed run_fault_of_system text e x (h.reading x found stands));
  checking = λ p x short spelled refused.
      rw is (refusal_passed run_fault_of_system e x (h.checking p x short spelled refused));
}

-- a text that has a system has no such fault
pub run_free : {T S : Type 0} (text : List ℕ) (s : S) (r : Result T RunFault)
    → IsExactBy {T = S} system.Front system.Check system.Memory (Ok s) text → IsExactFor r text
run_free text s r h = record {
  reading = λ x found stands. absurd (h.reading x found stands);
  checking = λ p x short spelled refused. absurd (h.checking p x short spelled refused);
}

-- as faults of the check of a schedule
pub check_refused : (text : List ℕ) (e : SystemFault) (f : CheckScheduleFault) → IsFaultOfText e text
    → f ≡ check_fault_of_system e → IsFaultBefore f text
check_refused text (system.Front e) f h is = rw is h
check_refused text (system.Check e) f h is = rw is h
check_refused text system.Memory f h is = rw is tt

pub check_exact : {S T : Type 0} (text : List ℕ) (e : SystemFault) (f : CheckScheduleFault)
    → IsExactBy {T = S} system.Front system.Check system.Memory (Err e) text → f ≡ check_fault_of_system e
    → IsExactForCheck {T = T} (Err f) text
check_exact text e f h is = record {
  reading = λ x found stands. rw is (passed check_fault_of_system text e x (h.reading x found stands));
  checking = λ p x short spelled refused.
      rw is (refusal_passed check_fault_of_system e x (h.checking p x short spelled refused));
}

pub check_free : {T S : Type 0} (text : List ℕ) (s : S) (r : Result T CheckScheduleFault)
    → IsExactBy {T = S} system.Front system.Check system.Memory (Ok s) text → IsExactForCheck r text
check_free text s r h = record {
  reading = λ x found stands. absurd (h.reading x found stands);
  checking = λ p x short spelled refused. absurd (h.checking p x short spelled refused);
}

-- and a fault of the schedule
pub lines_fault : (s : SystemParts) (lines : List ℕ) (e : ScheduleFault) (f : CheckScheduleFault)
    → (e ≡ schedule.Memory) ⊎ (schedule_answer s lines ≡ Err e) → f ≡ check_fault_of_schedule e → IsFaultIn f s lines
lines_fault s lines schedule.Memory f h is = rw is tt
lines_fault s lines (schedule.Undefined k) f (inl memory) is = absurd (cc)
lines_fault s lines (schedule.Undefined k) f (inr h) is =
    let other : schedule.Undefined k ≡ schedule.Memory → ⊥ = λ same. absurd (cc) in
    rw is (other, h)
lines_fault s lines (schedule.Range k) f (inl memory) is = absurd (cc)
lines_fault s lines (schedule.Range k) f (inr h) is =
    let other : schedule.Range k ≡ schedule.Memory → ⊥ = λ same. absurd (cc) in
    rw is (other, h)
lines_fault s lines (schedule.NotStep k) f (inl memory) is = absurd (cc)
lines_fault s lines (schedule.NotStep k) f (inr h) is =
    let other : schedule.NotStep k ≡ schedule.Memory → ⊥ = λ same. absurd (cc) in
    rw is (other, h)
lines_fault s lines (schedule.BadLine k) f (inl memory) is = absurd (cc)
lines_fault s lines (schedule.BadLine k) f (inr h) is =
    let other : schedule.BadLine k ≡ schedule.Memory → ⊥ = λ same. absurd (cc) in
    rw is (other, h)

-- what they say of the text and the lines together
pub before_refused : (text lines : List ℕ) (f : CheckScheduleFault) → IsFaultBefore f text → IsFaultOfCheck f text lines
before_refused text lines (check.Front f) h = h
before_refused text lines (check.Check f) h = h
before_refused text lines (check.Schedule f) h = absurd h
before_refused text lines check.Memory h = tt
before_refused text lines check.Write h = absurd h

pub before_early : (text : List ℕ) (f : CheckScheduleFault) → IsFaultBefore f text → IsEarlyCheck f
before_early text (check.Front f) h = tt
before_early text (check.Check f) h = tt
before_early text (check.Schedule f) h = absurd h
before_early text check.Memory h = tt
before_early text check.Write h = absurd h

refused_in : (text lines : List ℕ) (s : SystemParts) (f : CheckScheduleFault) → IsDescribed text s → IsFaultIn f s lines
    → IsFaultOfCheck f text lines
refused_in text lines s (check.Front f) d h = absurd h
refused_in text lines s (check.Check f) d h = absurd h
refused_in text lines s (check.Schedule f) d h = (h.0, record { parts = s; described = d; fault = h.1 })
refused_in text lines s check.Memory d h = tt
refused_in text lines s check.Write d h = absurd h

early_in : (lines : List ℕ) (s : SystemParts) (f : CheckScheduleFault) → IsFaultIn f s lines → IsEarlyCheck f
early_in lines s (check.Front f) h = absurd h
early_in lines s (check.Check f) h = absurd h
early_in lines s (check.Schedule f) h = tt
early_in lines s check.Memory h = tt
early_in lines s check.Write h = absurd h

pub outcome_refused : (text lines : List ℕ) (s : SystemParts) (r : Result (Unit {0}) CheckScheduleFault)
    → IsDescribed text s → IfErr r (λ f. IsFaultIn f s lines) → IfErr r (λ f. IsFaultOfCheck f text lines)
outcome_refused text lines s (Ok x) d h = tt
outcome_refused text lines s (Err f) d h = refused_in text lines s f d h

pub outcome_early : (lines : List ℕ) (s : SystemParts) (r : Result (Unit {0}) CheckScheduleFault)
    → IfErr r (λ f. IsFaultIn f s lines) → IfErr r (λ f. IsEarlyCheck f)
outcome_early lines s (Ok x) h = tt
outcome_early lines s (Err f) h = early_in lines s f h

pub outcome_execution : (text lines : List ℕ) (s : SystemParts) (r : Result (Unit {0}) CheckScheduleFault)
    → IsDescribed text s → IfOk r (λ _. IsExecutionSpelled s lines) → IfOk r (λ _. IsExecutionOfText text lines)
outcome_execution text lines s (Ok x) d h = record { parts = s; described = d; execution = h }
outcome_execution text lines s (Err f) d h = tt

-- what is made of the faults of a system
pub ruleset run_rules = (run_refused, run_early, run_calm, run_exact, run_free)

pub ruleset check_rules = (check_refused, check_exact, check_free)

pub ruleset follow_rules =
    (before_refused, before_early, outcome_refused, outcome_early, outcome_execution)
