-- What is said of a schedule with its verdicts.
use Rattle.std.proofs.Common.{◌≡◌, ℕ, Bool, true, false, List, Option, Some, None, Result, Ok, Err, sym, subst}
use Rattle.std.specs.Prelude.{IfErr}
use Rattle.std.specs.Io.KnownBytes.{Appends}
use Rattle.std.proofs.KnownBytes.{Keeps-refl}
use Rattle.ioa_streams.specs.Output.{AppendsBeginning}
use Rattle.ioa_system.specs.Systems.{SystemParts}
use Rattle.ioa_transitions.specs.Entries.{PlainEntry}
use Rattle.ioa_monitor.specs.declared.findings.Findings.{Findings}
use Rattle.ioa_monitor.specs.Judged.{judged_text, schedule_findings}
use Rattle.ioa_schedule_check.specs.declared.fault.ScheduleFault.{ScheduleFault}
use Rattle.ioa_schedule_check.specs.declared.fault.ScheduleFault.TheVariants as schedule
use Rattle.ioa_schedule_check.specs.Schedules.{IsExecutionSpelled, schedule_answer}
use Rattle.ioa_schedule_check.specs.Taken.{IsWholeIf, answer_by}
use Rattle.ioa_pipeline.specs.declared.judging.Judging.{Judging}
use Rattle.ioa_pipeline.specs.declared.judging.Judging.TheVariants.{Unasked}
use Rattle.ioa_pipeline.specs.declared.schedule_check.CheckScheduleFault.{CheckScheduleFault}
use Rattle.ioa_pipeline.specs.declared.schedule_check.CheckScheduleFault.TheVariants.{Front, Check, Schedule, Memory, Write}
use Rattle.ioa_pipeline.specs.Described.{IsDescribed}
use Rattle.ioa_pipeline.specs.Judging.{SaysGiven, SaysIn, SaysJudged, asked_with}
use Rattle.ioa_pipeline.specs.ScheduleChecks.{IsFaultBefore, IsFaultOfCheck}
use Rattle.ioa_pipeline.specs.ScheduleChecks.{SaysExecution, execution_line}
use Rattle.ioa_pipeline.proofs.Refusals.{before_refused}

-- ---- without verdicts

pub unjudged_done : (text lines : List ℕ) (old new : Option (List ℕ)) (failed : Bool) (found : Findings)
    → SaysExecution text lines old new failed (Ok tt)
    → found ≡ record { fault = false; spent = false; invariant = false } → SaysJudged Unasked text lines old new failed (Ok found)
unjudged_done text lines old new failed found said is = (said.0, (said.1, is, said.2))

pub unjudged_fault : (text lines : List ℕ) (old new : Option (List ℕ)) (failed : Bool) (f : CheckScheduleFault)
    → SaysExecution text lines old new failed (Err f) → SaysJudged Unasked text lines old new failed (Err f)
unjudged_fault text lines old new failed (Front f) said = said
unjudged_fault text lines old new failed (Check f) said = said
unjudged_fault text lines old new failed (Schedule f) said = said
unjudged_fault text lines old new failed Memory said = said
unjudged_fault text lines old new failed Write said = (said.0, (said.1, said.2))

pub ruleset unjudged_rules = (unjudged_done, unjudged_fault)

-- ---- in a system

-- the entries of an execution, as what was said of them
execution_says : (told : Bool) (s : SystemParts) (lines : List ℕ) (taken : List PlainEntry)
    (old new : Option (List ℕ)) (failed : Bool) (r : Result Findings CheckScheduleFault)
    → (execution : IsExecutionSpelled s lines) × (execution.entries ≡ taken)
    → SaysGiven told s None taken old new failed r → SaysIn told s lines old new failed r
execution_says told s lines taken old new failed (Ok found) whole said = (
  said.0,
  (
    whole.0,
    subst (λ (es : List PlainEntry). found ≡ schedule_findings s es) (sym whole.1) said.1,
    subst (λ (es : List PlainEntry). Appends old new (judged_text execution_line told s es)) (sym whole.1) said.2,
  ),
)
execution_says told s lines taken old new failed (Err Write) whole said = (
  said.0,
  (
    whole.0,
    subst (λ (es : List PlainEntry). AppendsBeginning old new (judged_text execution_line told s es)) (sym whole.1)
        said.1,
  ),
)
execution_says told s lines taken old new failed (Err Memory) whole said = said
execution_says told s lines taken old new failed (Err (Front f)) whole said = absurd said
execution_says told s lines taken old new failed (Err (Check f)) whole said = absurd said
execution_says told s lines taken old new failed (Err (Schedule f)) whole said = absurd said

-- a refusal, as what was said of it
refusal_says : (told : Bool) (s : SystemParts) (lines : List ℕ) (f : ScheduleFault) (taken : List PlainEntry)
    (old new : Option (List ℕ)) (failed : Bool) (r : Result Findings CheckScheduleFault)
    → Err f ≡ schedule_answer s lines → SaysGiven told s (Some f) taken old new failed r
    → SaysIn told s lines old new failed r
refusal_says told s lines f taken old new failed (Ok found) answer said = absurd said
refusal_says told s lines schedule.Memory taken old new failed (Err e) answer said = rw said.2 (said.0, said.1)
refusal_says told s lines (schedule.Undefined k) taken old new failed (Err e) answer said =
    let other : schedule.Undefined k ≡ schedule.Memory → ⊥ = λ same. absurd (cc) in
    rw said.2 (said.0, said.1, other, sym answer)
refusal_says told s lines (schedule.Range k) taken old new failed (Err e) answer said =
    let other : schedule.Range k ≡ schedule.Memory → ⊥ = λ same. absurd (cc) in
    rw said.2 (said.0, said.1, other, sym answer)
refusal_says told s lines (schedule.NotStep k) taken old new failed (Err e) answer said =
    let other : schedule.NotStep k ≡ schedule.Memory → ⊥ = λ same. absurd (cc) in
    rw said.2 (said.0, said.1, other, sym answer)
refusal_says told s lines (schedule.BadLine k) taken old new failed (Err e) answer said =
    let other : schedule.BadLine k ≡ schedule.Memory → ⊥ = λ same. absurd (cc) in
    rw said.2 (said.0, said.1, other, sym answer)

pub given_says : (told : Bool) (s : SystemParts) (lines : List ℕ) (refusal : Option ScheduleFault)
    (taken : List PlainEntry) (old new : Option (List ℕ)) (failed : Bool) (r : Result Findings CheckScheduleFault)
    → answer_by refusal ≡ schedule_answer s lines → IsWholeIf refusal s lines taken
    → SaysGiven told s refusal taken old new failed r → SaysIn told s lines old new failed r
given_says told s lines None taken old new failed r answer whole said =
    execution_says told s lines taken old new failed r whole said
given_says told s lines (Some f) taken old new failed r answer whole said =
    refusal_says told s lines f taken old new failed r answer said

-- ---- in a text

-- what is said in the system of a text
pub judged_says : (told : Bool) (text lines : List ℕ) (s : SystemParts) (old new : Option (List ℕ)) (failed : Bool)
    (r : Result Findings CheckScheduleFault) → IsDescribed text s → SaysIn told s lines old new failed r
    → SaysJudged (asked_with told) text lines old new failed r
judged_says false text lines s old new failed (Ok found) d said =
    (said.0, (record { parts = s; described = d; execution = said.1.0 }, said.1.1, said.1.2))
judged_says false text lines s old new failed (Err Write) d said =
    (said.0, (record { parts = s; described = d; execution = said.1.0 }, said.1.1))
judged_says false text lines s old new failed (Err Memory) d said = said
judged_says false text lines s old new failed (Err (Front f)) d said = absurd said
judged_says false text lines s old new failed (Err (Check f)) d said = absurd said
judged_says false text lines s old new failed (Err (Schedule f)) d said = (said.0, said.1)
judged_says true text lines s old new failed (Ok found) d said =
    (said.0, (record { parts = s; described = d; execution = said.1.0 }, said.1.1, said.1.2))
judged_says true text lines s old new failed (Err Write) d said =
    (said.0, (record { parts = s; described = d; execution = said.1.0 }, said.1.1))
judged_says true text lines s old new failed (Err Memory) d said = said
judged_says true text lines s old new failed (Err (Front f)) d said = absurd said
judged_says true text lines s old new failed (Err (Check f)) d said = absurd said
judged_says true text lines s old new failed (Err (Schedule f)) d said = (said.0, said.1)

-- its faults are those of the lines
pub judged_refused : (text lines : List ℕ) (s : SystemParts) (told : Bool) (old new : Option (List ℕ)) (failed : Bool)
    (r : Result Findings CheckScheduleFault) → IsDescribed text s → SaysIn told s lines old new failed r
    → IfErr r (λ f. IsFaultOfCheck f text lines)
judged_refused text lines s told old new failed (Ok found) d said = tt
judged_refused text lines s told old new failed (Err Write) d said = tt
judged_refused text lines s told old new failed (Err Memory) d said = tt
judged_refused text lines s told old new failed (Err (Front f)) d said = absurd said
judged_refused text lines s told old new failed (Err (Check f)) d said = absurd said
judged_refused text lines s told old new failed (Err (Schedule f)) d said =
    (said.2, record { parts = s; described = d; fault = said.3 })

-- nothing is said of the lines if the text has no system
pub unread_says : (judging : Judging) (text lines : List ℕ) (old : Option (List ℕ)) (failed : Bool)
    (f : CheckScheduleFault) → failed ≡ false → IsFaultBefore f text
    → SaysJudged judging text lines old old failed (Err f)
unread_says judging text lines old failed (Front f) well h = (well, Keeps-refl old)
unread_says judging text lines old failed (Check f) well h = (well, Keeps-refl old)
unread_says judging text lines old failed (Schedule f) well h = absurd h
unread_says judging text lines old failed Memory well h = (well, Keeps-refl old)
unread_says judging text lines old failed Write well h = absurd h

pub ruleset judged_rules = (before_refused, unread_says, judged_says, judged_refused)
