-- What is said of a schedule that is given beside a text, with the verdicts on the invariants along it (profile).
use Rattle.std.specs.Prelude.{◌≡◌, ℕ, Bool, true, false, List, [], Option, Some, None, Result, Ok, Err}
use Rattle.std.specs.Io.KnownBytes.{Keeps, Appends}
use Rattle.ioa_system.specs.Systems.{SystemParts}
use Rattle.ioa_transitions.specs.Entries.{PlainEntry}
use Rattle.ioa_streams.specs.Output.{AppendsBeginning}
use Rattle.ioa_schedule_check.specs.declared.fault.ScheduleFault.{ScheduleFault}
use Rattle.ioa_monitor.specs.declared.findings.Findings.{Findings}
use Rattle.ioa_monitor.specs.Findings.{findings_of}
use Rattle.ioa_monitor.specs.Judged.{judged_text, schedule_findings}
use Rattle.ioa_schedule_check.specs.declared.fault.ScheduleFault.TheVariants as schedule
use Rattle.ioa_schedule_check.specs.Schedules.{IsExecutionSpelled, schedule_answer}
use Rattle.ioa_pipeline.specs.declared.judging.Judging.{Judging}
use Rattle.ioa_pipeline.specs.declared.judging.Judging.TheVariants.{Unasked, Silent, Told}
use Rattle.ioa_pipeline.specs.declared.schedule_check.CheckScheduleFault.{CheckScheduleFault}
use Rattle.ioa_pipeline.specs.declared.schedule_check.CheckScheduleFault.TheVariants.{Front, Check, Schedule, Memory, Write}
use Rattle.ioa_pipeline.specs.ScheduleChecks.{IsExecutionOfText, check_fault_of_schedule, execution_line}

-- whether the verdicts are told
abbrev pub is_told : Judging → Bool
is_told Unasked = false
is_told Silent = false
is_told Told = true

-- what is asked for, if the verdicts are, and are to be told or not
abbrev pub asked_with : Bool → Judging
asked_with true = Told
asked_with false = Silent

-- what the verdicts along a schedule come to, if they are asked for
abbrev pub found_by : Judging → SystemParts → List PlainEntry → Findings
found_by Unasked s entries = findings_of [] []
found_by Silent s entries = schedule_findings s entries
found_by Told s entries = schedule_findings s entries

-- if the bytes of the output are known, they grow by what is said of an execution: the line, and behind it the verdicts
-- if they are told; and what the verdicts come to is returned. If writing failed, they grow by a beginning of that, and
-- the output says that it failed; after every other fault nothing was written
abbrev pub SaysJudged : Judging → (text lines : List ℕ) → (old new : Option (List ℕ)) → Bool
    → Result Findings CheckScheduleFault → Type 0
SaysJudged judging text lines old new failed (Ok found) =
    (failed ≡ false) × ((is : IsExecutionOfText text lines)
    × (found ≡ found_by judging is.parts is.execution.entries)
    × Appends old new (judged_text execution_line (is_told judging) is.parts is.execution.entries))
SaysJudged judging text lines old new failed (Err Write) =
    (failed ≡ true) × ((is : IsExecutionOfText text lines)
    × AppendsBeginning old new (judged_text execution_line (is_told judging) is.parts is.execution.entries))
SaysJudged judging text lines old new failed (Err (Front f)) = (failed ≡ false) × Keeps old new
SaysJudged judging text lines old new failed (Err (Check f)) = (failed ≡ false) × Keeps old new
SaysJudged judging text lines old new failed (Err (Schedule f)) = (failed ≡ false) × Keeps old new
SaysJudged judging text lines old new failed (Err Memory) = (failed ≡ false) × Keeps old new

-- the same of the lines as a schedule of a system, of which the verdicts are asked for; a fault is one of the lines
abbrev pub SaysIn : Bool → SystemParts → List ℕ → (old new : Option (List ℕ)) → Bool
    → Result Findings CheckScheduleFault → Type 0
SaysIn told s lines old new failed (Ok found) =
    (failed ≡ false) × ((execution : IsExecutionSpelled s lines) × (found ≡ schedule_findings s execution.entries)
    × Appends old new (judged_text execution_line told s execution.entries))
SaysIn told s lines old new failed (Err Write) =
    (failed ≡ true) × ((execution : IsExecutionSpelled s lines)
    × AppendsBeginning old new (judged_text execution_line told s execution.entries))
SaysIn told s lines old new failed (Err (Front f)) = ⊥
SaysIn told s lines old new failed (Err (Check f)) = ⊥
SaysIn told s lines old new failed (Err (Schedule f)) =
    (failed ≡ false) × Keeps old new × (f ≡ schedule.Memory → ⊥) × (schedule_answer s lines ≡ Err f)
SaysIn told s lines old new failed (Err Memory) = (failed ≡ false) × Keeps old new

-- the same of the entries that lines take, if they are not refused; else the fault is their refusal
abbrev pub SaysGiven : Bool → SystemParts → Option ScheduleFault → List PlainEntry → (old new : Option (List ℕ)) → Bool
    → Result Findings CheckScheduleFault → Type 0
SaysGiven told s None entries old new failed (Ok found) =
    (failed ≡ false) × (found ≡ schedule_findings s entries)
    × Appends old new (judged_text execution_line told s entries)
SaysGiven told s None entries old new failed (Err Write) =
    (failed ≡ true) × AppendsBeginning old new (judged_text execution_line told s entries)
SaysGiven told s None entries old new failed (Err Memory) = (failed ≡ false) × Keeps old new
SaysGiven told s None entries old new failed (Err (Front f)) = ⊥
SaysGiven told s None entries old new failed (Err (Check f)) = ⊥
SaysGiven told s None entries old new failed (Err (Schedule f)) = ⊥
SaysGiven told s (Some f) entries old new failed (Ok found) = ⊥
SaysGiven told s (Some f) entries old new failed (Err e) =
    (failed ≡ false) × Keeps old new × (e ≡ check_fault_of_schedule f)
