-- What a whole run writes (profile).
use Rattle.std.specs.Prelude.{◌≡◌, ⊤, ℕ, Bool, true, false, List, length, codes}
use Rattle.std.specs.Prelude.{Option, Result, Ok, Err}
use Rattle.std.specs.Io.KnownBytes.{Keeps, Appends}
use Rattle.ioa_text_reader.specs.FaultText.{front_fault_text}
use Rattle.ioa_sections.specs.Faults.{check_fault_text}
use Rattle.ioa_system.specs.Systems.{SystemParts}
use Rattle.ioa_held.specs.declared.finish.FinishFault.{FinishFault}
use Rattle.ioa_held.specs.declared.finish.FinishFault.TheVariants as finish
use Rattle.ioa_held.specs.Texts.{finish_fault_text}
use Rattle.ioa_record.specs.declared.ending.Ending.{Ending}
use Rattle.ioa_record.specs.declared.record.Record.{Record}
use Rattle.ioa_pipeline.specs.declared.whole_run.RunFault.{RunFault}
use Rattle.ioa_pipeline.specs.declared.whole_run.RunFault.TheVariants.{Front, Check, Finish, Memory, Write}
use Rattle.ioa_record.specs.Options.{PlainOptions}
use Rattle.ioa_streams.specs.Output.{AppendsBeginning}
use Rattle.ioa_monitor.specs.Reports.{report_text}
use Rattle.ioa_monitor.specs.Findings.{findings_of}
use Rattle.ioa_monitor.specs.declared.findings.Findings.{Findings}
use Rattle.ioa_verdicts.specs.Verdicts.{verdicts_of}
use Rattle.ioa_record.specs.Recorded.{IsOfOneWorker, IsRunOf}
use Rattle.ioa_solo.specs.Solo.{IsSoloRun}
use Rattle.ioa_pipeline.specs.declared.described.SystemFault.{SystemFault}
use Rattle.ioa_pipeline.specs.declared.described.SystemFault.TheVariants as system
use Rattle.ioa_pipeline.specs.Described.{IsDescribed, IsExactBy, IsFaultOfText}

-- what a run of a system that a text describes left, with these options: a count for each worker; one worker alone
-- makes the run that goes round the nodes
pub record IsLeftBy (text : List ℕ) (options : PlainOptions) (s : SystemParts) (left : Record) (endings : List Ending)
    : Type 0 where
  pub described : IsDescribed text s
  pub run : IsRunOf s options.steps left endings
  pub counted : length left.commits.items ≡ options.workers
  pub alone : options.workers ≡ 1 → IsOfOneWorker left
  pub solo : options.workers ≡ 1 → IsSoloRun s options left endings

-- the report of what a run of a system that a text describes left, with these options
pub record IsReport (text : List ℕ) (options : PlainOptions) (report : List ℕ) : Type 0 where
  pub parts : SystemParts
  pub described : IsDescribed text parts
  pub left : Record
  pub endings : List Ending
  pub run : IsRunOf parts options.steps left endings
  pub counted : length left.commits.items ≡ options.workers
  pub alone : options.workers ≡ 1 → IsOfOneWorker left
  pub solo : options.workers ≡ 1 → IsSoloRun parts options left endings
  pub written : report ≡ report_text parts left endings

-- what the endings and the verdicts of a run come to
abbrev pub found_in : SystemParts → Record → List Ending → Findings
found_in s left endings = findings_of endings (verdicts_of s left.schedule)

-- why a text describes no system, as a fault of its run
abbrev pub run_fault_of_system : SystemFault → RunFault
run_fault_of_system (system.Front f) = Front f
run_fault_of_system (system.Check f) = Check f
run_fault_of_system system.Memory = Memory

-- a fault of finishing as a run's
abbrev pub run_fault_of_finish : FinishFault → RunFault
run_fault_of_finish finish.Foreign = Finish finish.Foreign
run_fault_of_finish finish.SharesMissing = Finish finish.SharesMissing
run_fault_of_finish finish.Memory = Memory
run_fault_of_finish finish.Unaccounted = Finish finish.Unaccounted

-- a fault that a run by so many workers can have: one worker alone has none of finishing, and several have only one,
-- that the receipts do not account for the log
abbrev pub IsFaultOfWorkers : ℕ → RunFault → Type 0
IsFaultOfWorkers workers (Front f) = ⊤
IsFaultOfWorkers workers (Check f) = ⊤
IsFaultOfWorkers workers (Finish f) = (workers ≡ 1 → ⊥) × (f ≡ finish.Unaccounted)
IsFaultOfWorkers workers Memory = ⊤
IsFaultOfWorkers workers Write = ⊤

-- what a fault says of the text: that it describes no system, and why; want of memory, a fault of finishing and a
-- failed write say nothing
abbrev pub IsRefusalOf : RunFault → List ℕ → Type 0
IsRefusalOf (Front f) text = IsFaultOfText (system.Front f) text
IsRefusalOf (Check f) text = IsFaultOfText (system.Check f) text
IsRefusalOf (Finish f) text = f ≡ finish.Memory → ⊥
IsRefusalOf Memory text = ⊤
IsRefusalOf Write text = ⊤

-- no fault of the text that is always found is passed over
abbrev pub IsExactFor : {T : Type 0} → Result T RunFault → List ℕ → Type 0
IsExactFor result text = IsExactBy Front Check Memory result text

-- a fault as text: its number and its name, then its offset or its index if it has one
abbrev pub run_fault_text : RunFault → List ℕ
run_fault_text (Front f) = front_fault_text f
run_fault_text (Check f) = check_fault_text f
run_fault_text (Finish f) = finish_fault_text f
run_fault_text Memory = codes "3 Memory"
run_fault_text Write = codes "71 Write"

-- nothing was written before this fault
abbrev pub IsEarly : RunFault → Type 0
IsEarly (Front f) = ⊤
IsEarly (Check f) = ⊤
IsEarly (Finish f) = ⊤
IsEarly Memory = ⊤
IsEarly Write = ⊥

-- if the bytes of the output are known, they grow by a report, which goes out whole if the call passes, and what its
-- endings and verdicts come to is told; if writing failed, a beginning of one went out, and the output says that it
-- failed; after every other fault nothing was written
abbrev pub WritesReport : List ℕ → PlainOptions → Option (List ℕ) → Option (List ℕ) → Bool
    → Result Findings RunFault → Type 0
WritesReport text options old new failed (Ok x) =
    (failed ≡ false) × ((report : List ℕ) × (is : IsReport text options report)
    × (x ≡ found_in is.parts is.left is.endings) × Appends old new report)
WritesReport text options old new failed (Err Write) =
    (failed ≡ true) × ((report : List ℕ) × IsReport text options report × AppendsBeginning old new report)
WritesReport text options old new failed (Err (Front f)) = (failed ≡ false) × Keeps old new
WritesReport text options old new failed (Err (Check f)) = (failed ≡ false) × Keeps old new
WritesReport text options old new failed (Err (Finish f)) = (failed ≡ false) × Keeps old new
WritesReport text options old new failed (Err Memory) = (failed ≡ false) × Keeps old new

-- the same of one text with its findings, before which no other fault can come
abbrev pub WritesText : List ℕ → Findings → Option (List ℕ) → Option (List ℕ) → Bool → Result Findings RunFault → Type 0
WritesText text found old new failed (Ok x) = (failed ≡ false) × (x ≡ found) × Appends old new text
WritesText text found old new failed (Err Write) = (failed ≡ true) × AppendsBeginning old new text
WritesText text found old new failed (Err Memory) = (failed ≡ false) × Keeps old new
WritesText text found old new failed (Err (Front f)) = ⊥
WritesText text found old new failed (Err (Check f)) = ⊥
WritesText text found old new failed (Err (Finish f)) = ⊥
