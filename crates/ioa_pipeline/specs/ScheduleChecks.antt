-- What is said of a schedule that is given beside a text (profile).
use Rattle.std.specs.Prelude.{◌≡◌, ⊤, ℕ, Bool, true, false, List, Option, Result, Ok, Err, codes}
use Rattle.std.specs.Io.KnownBytes.{Keeps, Appends}
use Rattle.ioa_text_reader.specs.FaultText.{front_fault_text}
use Rattle.ioa_sections.specs.Faults.{check_fault_text}
use Rattle.ioa_system.specs.Systems.{SystemParts}
use Rattle.ioa_streams.specs.Output.{AppendsBeginning}
use Rattle.ioa_schedule_check.specs.declared.fault.ScheduleFault.{ScheduleFault}
use Rattle.ioa_schedule_check.specs.declared.fault.ScheduleFault.TheVariants as schedule
use Rattle.ioa_schedule_check.specs.Schedules.{IsExecutionSpelled, schedule_answer, schedule_fault_text}
use Rattle.ioa_pipeline.specs.declared.described.SystemFault.{SystemFault}
use Rattle.ioa_pipeline.specs.declared.described.SystemFault.TheVariants as system
use Rattle.ioa_pipeline.specs.declared.schedule_check.CheckScheduleFault.{CheckScheduleFault}
use Rattle.ioa_pipeline.specs.declared.schedule_check.CheckScheduleFault.TheVariants.{Front, Check, Schedule, Memory, Write}
use Rattle.ioa_pipeline.specs.Described.{IsDescribed, IsExactBy, IsFaultOfText}

-- the lines are a schedule of a system that the text describes, and an execution of it (Lynch 8.1)
pub record IsExecutionOfText (text lines : List ℕ) : Type 0 where
  pub parts : SystemParts
  pub described : IsDescribed text parts
  pub execution : IsExecutionSpelled parts lines

-- the fault is that of the lines, as a schedule of a system that the text describes
pub record IsFaultOfLines (f : ScheduleFault) (text lines : List ℕ) : Type 0 where
  pub parts : SystemParts
  pub described : IsDescribed text parts
  pub fault : schedule_answer parts lines ≡ Err f

-- why a text describes no system, as a fault of the check of a schedule
abbrev pub check_fault_of_system : SystemFault → CheckScheduleFault
check_fault_of_system (system.Front f) = Front f
check_fault_of_system (system.Check f) = Check f
check_fault_of_system system.Memory = Memory

-- a fault of a schedule: want of memory is one fault wherever it comes
abbrev pub check_fault_of_schedule : ScheduleFault → CheckScheduleFault
check_fault_of_schedule (schedule.Undefined k) = Schedule (schedule.Undefined k)
check_fault_of_schedule (schedule.Range k) = Schedule (schedule.Range k)
check_fault_of_schedule schedule.Memory = Memory
check_fault_of_schedule (schedule.NotStep k) = Schedule (schedule.NotStep k)
check_fault_of_schedule (schedule.BadLine k) = Schedule (schedule.BadLine k)

-- what a fault says of the text and the lines: that the text describes no system, or that the lines are no execution,
-- and why; want of memory and a failed write say nothing
abbrev pub IsFaultOfCheck : CheckScheduleFault → (text lines : List ℕ) → Type 0
IsFaultOfCheck (Front f) text lines = IsFaultOfText (system.Front f) text
IsFaultOfCheck (Check f) text lines = IsFaultOfText (system.Check f) text
IsFaultOfCheck (Schedule f) text lines = (f ≡ schedule.Memory → ⊥) × IsFaultOfLines f text lines
IsFaultOfCheck Memory text lines = ⊤
IsFaultOfCheck Write text lines = ⊤

-- no fault of the text that is always found is passed over
abbrev pub IsExactForCheck : {T : Type 0} → Result T CheckScheduleFault → List ℕ → Type 0
IsExactForCheck result text = IsExactBy Front Check Memory result text

-- a fault of the text alone
abbrev pub IsFaultBefore : CheckScheduleFault → List ℕ → Type 0
IsFaultBefore (Front f) text = IsFaultOfText (system.Front f) text
IsFaultBefore (Check f) text = IsFaultOfText (system.Check f) text
IsFaultBefore (Schedule f) text = ⊥
IsFaultBefore Memory text = ⊤
IsFaultBefore Write text = ⊥

-- a fault of the lines alone, as a schedule of a system
abbrev pub IsFaultIn : CheckScheduleFault → SystemParts → List ℕ → Type 0
IsFaultIn (Front f) s lines = ⊥
IsFaultIn (Check f) s lines = ⊥
IsFaultIn (Schedule f) s lines = (f ≡ schedule.Memory → ⊥) × (schedule_answer s lines ≡ Err f)
IsFaultIn Memory s lines = ⊤
IsFaultIn Write s lines = ⊥

-- nothing was written before this fault
abbrev pub IsEarlyCheck : CheckScheduleFault → Type 0
IsEarlyCheck (Front f) = ⊤
IsEarlyCheck (Check f) = ⊤
IsEarlyCheck (Schedule f) = ⊤
IsEarlyCheck Memory = ⊤
IsEarlyCheck Write = ⊥

-- what is said of an execution
abbrev pub execution_line : List ℕ
execution_line = codes "execution\n"

-- if the bytes of the output are known, they grow by the line if the lines are an execution; if writing failed, by a
-- beginning of it, and the output says that it failed; after every other fault nothing was written
abbrev pub SaysExecution : (text lines : List ℕ) → (old new : Option (List ℕ)) → Bool
    → Result (Unit {0}) CheckScheduleFault → Type 0
SaysExecution text lines old new failed (Ok x) =
    (failed ≡ false) × IsExecutionOfText text lines × Appends old new execution_line
SaysExecution text lines old new failed (Err Write) =
    (failed ≡ true) × IsExecutionOfText text lines × AppendsBeginning old new execution_line
SaysExecution text lines old new failed (Err (Front f)) = (failed ≡ false) × Keeps old new
SaysExecution text lines old new failed (Err (Check f)) = (failed ≡ false) × Keeps old new
SaysExecution text lines old new failed (Err (Schedule f)) = (failed ≡ false) × Keeps old new
SaysExecution text lines old new failed (Err Memory) = (failed ≡ false) × Keeps old new

-- a fault as text: its number and its name, then its place if it has one
abbrev pub check_schedule_fault_text : CheckScheduleFault → List ℕ
check_schedule_fault_text (Front f) = front_fault_text f
check_schedule_fault_text (Check f) = check_fault_text f
check_schedule_fault_text (Schedule f) = schedule_fault_text f
check_schedule_fault_text Memory = codes "3 Memory"
check_schedule_fault_text Write = codes "71 Write"
