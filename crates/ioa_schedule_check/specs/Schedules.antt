-- Schedules that are given as lines, against a system (profile).
use Rattle.std.specs.Prelude.{◌≡◌, ⊤, ℕ, ◌+◌, Bool, true, false, List, [], ◌∷◌, ◌++◌, Some, Result, Ok, Err, codes}
use Rattle.std.specs.Prelude.{slice_get, take}
use Rattle.std.specs.Fmt.{decimal}
use Rattle.ioa_actions.specs.declared.fault.StepFault.{StepFault}
use Rattle.ioa_actions.specs.declared.fault.StepFault.TheVariants as step
use Rattle.ioa_transitions.specs.Entries.{PlainEntry}
use Rattle.ioa_system.specs.Systems.{SystemParts}
use Rattle.ioa_compose.specs.declared.configuration.Conf.{Conf}
use Rattle.ioa_compose.specs.Composition.{joint_answer}
use Rattle.ioa_compose.specs.Executions.{replay}
use Rattle.ioa_compose.specs.Start.{start}
use Rattle.ioa_lines.specs.Lines.{IsBadLine, Lines, lines_answer, lines_of}
use Rattle.ioa_lines.specs.declared.fault.LineFault.{LineFault}
use Rattle.ioa_lines.specs.declared.fault.LineFault.TheVariants as line
use Rattle.ioa_schedule_check.specs.declared.fault.ScheduleFault.{ScheduleFault}
use Rattle.ioa_schedule_check.specs.declared.fault.ScheduleFault.TheVariants.{Undefined, Range, Memory, NotStep}
use Rattle.ioa_schedule_check.specs.declared.fault.ScheduleFault.TheVariants.{BadLine}

-- the lines of a text spell a schedule of a system, and the schedule is an execution: it replays from the start (Lynch
-- 8.1)
pub record IsExecutionSpelled (s : SystemParts) (text : List ℕ) : Type 0 where
  pub entries : List PlainEntry
  pub spelled : Lines s text entries
  pub states : List Conf
  pub replayed : replay entries (start s) ≡ Some states

-- whether a fault says that an entry is no step, and not that the runtime can't tell
abbrev pub is_no_step : StepFault → Bool
is_no_step step.Undefined = false
is_no_step step.Range = false
is_no_step step.Memory = false
is_no_step step.NotEnabled = true
is_no_step step.NotMine = true
is_no_step step.NoChannel = true
is_no_step step.NoChoice = true

-- why the entry at a place is no step: its action is not enabled, not in a signature, or of a component that is not
-- there, or its values are not those that the effect may choose; or the runtime can't tell
abbrev pub fault_at : ℕ → StepFault → ScheduleFault
fault_at k step.Undefined = Undefined k
fault_at k step.Range = Range k
fault_at k step.Memory = Memory
fault_at k step.NotEnabled = NotStep k
fault_at k step.NotMine = NotStep k
fault_at k step.NoChannel = NotStep k
fault_at k step.NoChoice = NotStep k

-- a fault of reading lines
abbrev pub fault_of_line : LineFault → ScheduleFault
fault_of_line (line.BadLine k) = BadLine k
fault_of_line line.Memory = Memory

-- further steps after the one of a place, or its fault
abbrev pub after_step_at : ℕ → (List Conf → Result (Unit {0}) ScheduleFault) → Result (List Conf) StepFault
    → Result (Unit {0}) ScheduleFault
after_step_at k steps (Ok next) = steps next
after_step_at k steps (Err f) = Err (fault_at k f)

-- the steps by entries one after another, the first of which has this place: done, or the fault of the first that is
-- no step
abbrev pub steps_answer : ℕ → List PlainEntry → List Conf → Result (Unit {0}) ScheduleFault
steps_answer k [] cs = Ok tt
steps_answer k (e ∷ more) cs = after_step_at k (steps_answer (k + 1) more) (joint_answer e cs)

-- the steps by the entries that lines spell, or the fault of the first line that spells none
abbrev pub steps_of_lines : ℕ → List Conf → Result (List PlainEntry) LineFault → Result (Unit {0}) ScheduleFault
steps_of_lines k cs (Ok entries) = steps_answer k entries cs
steps_of_lines k cs (Err f) = Err (fault_of_line f)

-- a schedule that is given as lines: an execution, or the fault of the first line that spells no entry; if each does,
-- the fault of the first entry that is no step
unfoldable pub schedule_answer : SystemParts → List ℕ → Result (Unit {0}) ScheduleFault
schedule_answer s text = steps_of_lines 0 (start s) (lines_answer s text)

-- the fault of an entry, if each line spells one; else that of the first line that spells none
abbrev pub fault_or_line : ScheduleFault → Result (List PlainEntry) LineFault → ScheduleFault
fault_or_line f (Ok entries) = f
fault_or_line f (Err e) = fault_of_line e

-- whether each line spells an entry
abbrev pub all_read : Result (List PlainEntry) LineFault → Result (Unit {0}) LineFault
all_read (Ok entries) = Ok tt
all_read (Err e) = Err e

-- the lines spell a schedule; its first entries, as many as the place says, replay from the start, and the joint step
-- of the next one has this fault (Lynch 8.1)
pub record StopsAtStep (s : SystemParts) (text : List ℕ) (k : ℕ) (f : StepFault) : Type 0 where
  pub entries : List PlainEntry
  pub spelled : Lines s text entries
  pub states : List Conf
  pub before : replay (take k entries) (start s) ≡ Some states
  pub entry : PlainEntry
  pub next : slice_get entries k ≡ Some entry
  pub fault : joint_answer entry states ≡ Err f

-- what a refusal says: a line in front of which so many spell entries spells none; or each spells one, and that of the
-- place is no step, or one of which the runtime can't tell; want of memory says nothing
abbrev pub IsRefusedAs : ScheduleFault → SystemParts → List ℕ → Type 0
IsRefusedAs (Undefined k) s text = StopsAtStep s text k step.Undefined
IsRefusedAs (Range k) s text = StopsAtStep s text k step.Range
IsRefusedAs Memory s text = ⊤
IsRefusedAs (NotStep k) s text = (f : StepFault) × (is_no_step f ≡ true) × StopsAtStep s text k f
IsRefusedAs (BadLine k) s text = IsBadLine s k (lines_of text)

-- a fault as text: its number, its name and its place
abbrev pub schedule_fault_text : ScheduleFault → List ℕ
schedule_fault_text (Undefined k) = codes "1 Undefined at " ++ decimal k
schedule_fault_text (Range k) = codes "2 Range at " ++ decimal k
schedule_fault_text Memory = codes "3 Memory"
schedule_fault_text (NotStep k) = codes "60 NotStep at " ++ decimal k
schedule_fault_text (BadLine k) = codes "61 BadLine at " ++ decimal k
