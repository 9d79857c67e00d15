-- Why the program did not do what it was asked, as a status and as a line (profile).
use Rattle.std.specs.Prelude.{ℕ, List, ◌++◌, codes, string_bytes}
use Rattle.ioa_streams.specs.Input.{input_fault_text}
use Rattle.ioa_streams.specs.declared.input.InputFault.{InputFault}
use Rattle.ioa_streams.specs.declared.input.InputFault.TheVariants as input
use Rattle.ioa_explain.specs.Faults.{explain_fault_text}
use Rattle.ioa_explain.specs.declared.fault.ExplainFault.{ExplainFault}
use Rattle.ioa_explain.specs.declared.fault.ExplainFault.TheVariants as explain
use Rattle.ioa_pipeline.specs.Printing.{print_fault_text}
use Rattle.ioa_pipeline.specs.declared.tracing.TraceFault.{TraceFault}
use Rattle.ioa_pipeline.specs.declared.tracing.TraceFault.TheVariants as trace
use Rattle.ioa_pipeline.specs.declared.replaying.ReplayFault.{ReplayFault}
use Rattle.ioa_pipeline.specs.declared.replaying.ReplayFault.TheVariants as replay
use Rattle.ioa_pipeline.specs.Replaying.{replay_fault_text}
use Rattle.ioa_pipeline.specs.WholeRun.{run_fault_text}
use Rattle.ioa_pipeline.specs.ScheduleChecks.{check_schedule_fault_text}
use Rattle.ioa_pipeline.specs.declared.printing.PrintFault.{PrintFault}
use Rattle.ioa_pipeline.specs.declared.printing.PrintFault.TheVariants as print
use Rattle.ioa_pipeline.specs.declared.whole_run.RunFault.{RunFault}
use Rattle.ioa_pipeline.specs.declared.whole_run.RunFault.TheVariants as run
use Rattle.ioa_pipeline.specs.declared.schedule_check.CheckScheduleFault.{CheckScheduleFault}
use Rattle.ioa_pipeline.specs.declared.schedule_check.CheckScheduleFault.TheVariants as check
use Rattle.ioa_command.specs.declared.faults.TextFault.{TextFault}
use Rattle.ioa_command.specs.declared.faults.TextFault.TheVariants.{Input, Unread, Run, Explain, Trace, Replay, Check, Print}

-- 1 if the input is refused, and 3 if memory or reading failed
abbrev pub input_status : InputFault → ℕ
input_status input.Read = 3
input_status (input.TooLong limit) = 1
input_status (input.BadCharacter offset) = 1
input_status input.Memory = 3

-- 1 if the text is refused, and 3 if memory, finishing or writing failed
abbrev pub run_status : RunFault → ℕ
run_status (run.Front f) = 1
run_status (run.Check f) = 1
run_status (run.Finish f) = 3
run_status run.Memory = 3
run_status run.Write = 3

-- 1 if the text or the schedule is refused, and 3 if memory or writing failed
abbrev pub check_status : CheckScheduleFault → ℕ
check_status (check.Front f) = 1
check_status (check.Check f) = 1
check_status (check.Schedule f) = 1
check_status check.Memory = 3
check_status check.Write = 3

-- the line of an input that gives no text: a read has `failed`, all else is `refused`
abbrev pub input_line : InputFault → List ℕ
input_line input.Read = codes "failed " ++ input_fault_text input.Read
input_line (input.TooLong limit) = codes "refused " ++ input_fault_text (input.TooLong limit)
input_line (input.BadCharacter offset) = codes "refused " ++ input_fault_text (input.BadCharacter offset)
input_line input.Memory = codes "refused " ++ input_fault_text input.Memory

-- the line of a text that gave no report: a write has `failed`, all else is `refused`
abbrev pub run_line : RunFault → List ℕ
run_line (run.Front f) = codes "refused " ++ run_fault_text (run.Front f)
run_line (run.Check f) = codes "refused " ++ run_fault_text (run.Check f)
run_line (run.Finish f) = codes "refused " ++ run_fault_text (run.Finish f)
run_line run.Memory = codes "refused " ++ run_fault_text run.Memory
run_line run.Write = codes "failed " ++ run_fault_text run.Write

-- the line of a schedule that is not said to be an execution: a write has `failed`, all else is `refused`
abbrev pub check_line : CheckScheduleFault → List ℕ
check_line (check.Front f) = codes "refused " ++ check_schedule_fault_text (check.Front f)
check_line (check.Check f) = codes "refused " ++ check_schedule_fault_text (check.Check f)
check_line (check.Schedule f) = codes "refused " ++ check_schedule_fault_text (check.Schedule f)
check_line check.Memory = codes "refused " ++ check_schedule_fault_text check.Memory
check_line check.Write = codes "failed " ++ check_schedule_fault_text check.Write

-- 1 if the text is refused, and 3 if memory or writing failed
abbrev pub print_status : PrintFault → ℕ
print_status (print.Front f) = 1
print_status print.Memory = 3
print_status print.Write = 3

-- the line of a text that was not laid out anew: a write has `failed`, all else is `refused`
abbrev pub print_line : PrintFault → List ℕ
print_line (print.Front f) = codes "refused " ++ print_fault_text (print.Front f)
print_line print.Memory = codes "refused " ++ print_fault_text print.Memory
print_line print.Write = codes "failed " ++ print_fault_text print.Write

-- that of the run, and 3 if the run that is told is not that of the record
abbrev pub trace_status : TraceFault → ℕ
trace_status (trace.Run f) = run_status f
trace_status trace.Differs = 3

-- the line of a run that was not shown
abbrev pub trace_line : TraceFault → List ℕ
trace_line (trace.Run f) = run_line f
trace_line trace.Differs = codes "refused 51 Differs"

-- that of a check, also if the refusal has its reason with it; and 3 if the steps that are told are not those taken
abbrev pub replay_status : ReplayFault → ℕ
replay_status (replay.Check f) = check_status f
replay_status (replay.NoStep f why) = 1
replay_status replay.Differs = 3

-- the line of a schedule that was not shown to its end
abbrev pub replay_line : ReplayFault → List ℕ
replay_line (replay.Check f) = check_line f
replay_line (replay.NoStep f why) = codes "refused " ++ replay_fault_text (replay.NoStep f why)
replay_line replay.Differs = codes "refused " ++ replay_fault_text replay.Differs

-- the line if it was not told what is wrong with a text: a write has `failed`, want of memory is `refused`
abbrev pub explain_line : ExplainFault → List ℕ
explain_line explain.Memory = codes "refused " ++ explain_fault_text explain.Memory
explain_line explain.Write = codes "failed " ++ explain_fault_text explain.Write

-- the line of a file that can't be read, by its name
abbrev pub unread_line : List ℕ → List ℕ
unread_line name = codes "failed 70 Read " ++ name

-- the status of a fault, and its line
abbrev pub fault_status : TextFault → ℕ
fault_status (Input f) = input_status f
fault_status (Unread name) = 3
fault_status (Run f) = run_status f
fault_status (Explain f) = 3
fault_status (Trace f) = trace_status f
fault_status (Replay f) = replay_status f
fault_status (Check f) = check_status f
fault_status (Print f) = print_status f

abbrev pub fault_line : TextFault → List ℕ
fault_line (Input f) = input_line f
fault_line (Unread name) = unread_line (string_bytes name)
fault_line (Run f) = run_line f
fault_line (Explain f) = explain_line f
fault_line (Trace f) = trace_line f
fault_line (Replay f) = replay_line f
fault_line (Check f) = check_line f
fault_line (Print f) = print_line f
