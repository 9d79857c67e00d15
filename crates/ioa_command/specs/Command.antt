-- What the program does with its words, its input and its two outputs (profile).
use Rattle.std.specs.Prelude.{◌≡◌, ◌⊎◌, ◌++◌, ⊤, ℕ, Bool, true, false, if◌then◌else◌, List, codes}
use Rattle.std.specs.Prelude.{Option, Some, None, Result, Ok, Err, IfErr, IfOk}
use Rattle.std.specs.Io.KnownBytes.{Keeps, Appends}
use Rattle.clap.specs.Values.{kind_of}
use Rattle.clap.specs.Walk.{Text}
use Rattle.clap.specs.declared.error.Error.{Error}
use Rattle.clap.specs.declared.error.kind.ErrorKind.{ErrorKind}
use Rattle.ioa_streams.specs.Output.{AppendsBeginning}
use Rattle.ioa_streams.specs.Parts.{lines_part, text_part}
use Rattle.ioa_streams.specs.ScheduleParts.{schedule_part}
use Rattle.ioa_record.specs.Options.{PlainOptions}
use Rattle.ioa_monitor.specs.declared.findings.Findings.{Findings}
use Rattle.ioa_explain.specs.Explanations.{Explains, IsFindingOn}
use Rattle.ioa_explain.specs.declared.explaining.Finding.{Finding}
use Rattle.ioa_explain.specs.declared.explaining.Finding.TheVariants.{NothingWrong, Refused}
use Rattle.ioa_explain.specs.declared.fault.ExplainFault.{ExplainFault}
use Rattle.ioa_explain.specs.declared.fault.ExplainFault.TheVariants as explain
use Rattle.ioa_explain_schedule.specs.declared.explaining.LineFinding.{LineFinding}
use Rattle.ioa_explain_schedule.specs.declared.explaining.LineFinding.TheVariants as lines
use Rattle.ioa_explain_schedule.specs.declared.fault.ExplainLinesFault.{ExplainLinesFault}
use Rattle.ioa_explain_schedule.specs.declared.fault.ExplainLinesFault.TheVariants as lines_fault
use Rattle.ioa_pipeline.specs.Explaining.{ExplainsSchedule, HasNoSystem}
use Rattle.ioa_pipeline.specs.declared.printing.PrintFault.{PrintFault}
use Rattle.ioa_pipeline.specs.declared.tracing.TraceFault.{TraceFault}
use Rattle.ioa_pipeline.specs.declared.whole_run.RunFault.{RunFault}
use Rattle.ioa_pipeline.specs.declared.schedule_check.CheckScheduleFault.{CheckScheduleFault}
use Rattle.ioa_pipeline.specs.declared.tracing.Format.{Format}
use Rattle.ioa_pipeline.specs.declared.replaying.ReplayFault.{ReplayFault}
use Rattle.ioa_pipeline.specs.declared.replaying.ReplayFault.TheVariants as replay
use Rattle.ioa_pipeline.specs.declared.schedule_check.CheckScheduleFault.TheVariants as check
use Rattle.ioa_pipeline.specs.Replaying.{IsExactForReplay, IsFaultOfReplay, ShowsReplay}
use Rattle.ioa_pipeline.specs.Tracing.{IsRefusalOfTrace, ShowsRun}
use Rattle.ioa_pipeline.specs.Printing.{IsFaultOfPrint, PrintsAnew}
use Rattle.ioa_pipeline.specs.WholeRun.{IsExactFor, IsFaultOfWorkers, IsRefusalOf, WritesReport}
use Rattle.ioa_pipeline.specs.declared.judging.Judging.{Judging}
use Rattle.ioa_pipeline.specs.Judging.{SaysJudged}
use Rattle.ioa_pipeline.specs.ScheduleChecks.{IsExactForCheck, IsFaultOfCheck}
use Rattle.ioa_command.specs.declared.choice.InputName.{InputName}
use Rattle.ioa_command.specs.declared.choice.ExplainChoice.{ExplainChoice}
use Rattle.ioa_command.specs.declared.choice.RunChoice.{RunChoice}
use Rattle.ioa_command.specs.declared.choice.TraceChoice.{TraceChoice}
use Rattle.ioa_command.specs.declared.choice.ReplayChoice.{ReplayChoice}
use Rattle.ioa_command.specs.declared.choice.CheckChoice.{CheckChoice}
use Rattle.ioa_command.specs.declared.choice.Subcommand.{Subcommand}
use Rattle.ioa_command.specs.declared.choice.Subcommand.TheVariants as subcommand
use Rattle.ioa_command.specs.declared.faults.TextFault.{TextFault}
use Rattle.ioa_command.specs.declared.faults.TextFault.TheVariants.{Input, Unread, Run, Explain, Trace, Replay, Check, Print}
use Rattle.ioa_command.specs.CommandLine.{AsksForText, Chooses, IsErrorOf, words_status}
use Rattle.ioa_command.specs.FailOn.{meet}
use Rattle.ioa_command.specs.Faults.{fault_line, fault_status}
use Rattle.ioa_command.specs.Inputs.{IsFaultOfInput, IsFaultOfLong, IsTextOf, IsTextWithin}
use Rattle.ioa_command.specs.Inputs.{behind, given_behind, given_by, schedule_limit, shown_name}

-- an output before and after: its bytes, if they are known, and whether it has failed
pub record Output : Type 0 where
  pub old : Option (List ℕ)
  pub new : Option (List ℕ)
  pub failed : Bool

abbrev pub output : Option (List ℕ) → Option (List ℕ) → Bool → Output
output old new failed = record { old = old; new = new; failed = failed }

-- nothing went out, and nothing failed
abbrev pub IsKept : Output → Type 0
IsKept o = (o.failed ≡ false) × Keeps o.old o.new

-- if the bytes of an output are known, they grow by a text: by all of it, or by a beginning of it if the output failed
abbrev pub ShowsBy : Bool → Text → Output → Type 0
ShowsBy false text o = Appends o.old o.new text
ShowsBy true text o = AppendsBeginning o.old o.new text

abbrev pub Shows : Text → Output → Type 0
Shows text o = ShowsBy o.failed text o

-- some text went out so; which text clap has for an error is not known
abbrev pub ShowsText : Output → Type 0
ShowsText o = (text : Text) × Shows text o

-- the text of the input was run with these options; a fault is one of that text, and no fault that is always found is
-- passed over; with one worker none is of finishing
abbrev pub RunsText : PlainOptions → Option (List ℕ) → Output → Result Findings RunFault → Type 0
RunsText options given out result =
    (text : List ℕ) × IsTextOf given text × WritesReport text options out.old out.new out.failed result
    × IfErr result (λ f. IsRefusalOf f text) × IsExactFor result text
    × IfErr result (λ f. IsFaultOfWorkers options.workers f)

-- lines were checked against a text; a fault is one of them, and no fault of the text that is always found is passed
-- over
abbrev pub ChecksIn : Judging → (text lines : List ℕ) → Output → Result Findings CheckScheduleFault → Type 0
ChecksIn judging text lines out result =
    SaysJudged judging text lines out.old out.new out.failed result
    × IfErr result (λ f. IsFaultOfCheck f text lines) × IsExactForCheck result text

-- the lines in the input were checked against the text in it
abbrev pub ChecksLines : Judging → Option (List ℕ) → Output → Result Findings CheckScheduleFault → Type 0
ChecksLines judging given out result =
    (input : List ℕ) × IsTextOf given input × ChecksIn judging (text_part input) (lines_part input) out result

-- the schedule in an input of at most so many bytes was checked against a text
abbrev pub ChecksGiven : Judging → List ℕ → ℕ → Option (List ℕ) → Output → Result Findings CheckScheduleFault
    → Type 0
ChecksGiven judging text limit other out result =
    (lines : List ℕ) × IsTextWithin limit other lines × ChecksIn judging text (schedule_part lines) out result

-- the schedule in one input was checked against the text in another
abbrev pub ChecksApart : Judging → ℕ → (given other : Option (List ℕ)) → Output → Result Findings CheckScheduleFault
    → Type 0
ChecksApart judging limit given other out result =
    (text : List ℕ) × IsTextOf given text × ChecksGiven judging text limit other out result

-- the schedule was checked that stands behind the text in its input, or in an input of its own
abbrev pub ChecksGivenIn : Judging → InputName → Option InputName → Option (List ℕ) → Output
    → Result Findings CheckScheduleFault → Type 0
ChecksGivenIn judging input None given out result = ChecksLines judging (given_by input given) out result
ChecksGivenIn judging input (Some s) given out result =
    ChecksApart judging (schedule_limit s) (given_by input given) (given_behind input s given) out result

abbrev pub ChecksSchedule : CheckChoice → Option (List ℕ) → Output → Result Findings CheckScheduleFault → Type 0
ChecksSchedule c given out result = ChecksGivenIn c.judging c.input c.schedule given out result

-- the text of the input was laid out anew; a fault is one of that text
abbrev pub PrintsText : Option (List ℕ) → Output → Result (Unit {0}) PrintFault → Type 0
PrintsText given out result =
    (text : List ℕ) × IsTextOf given text × PrintsAnew text out.old out.new out.failed result
    × IfErr result (λ f. IsFaultOfPrint f text)

-- why an input of `check` gives no text
abbrev pub IsFaultOfSchedule : Option InputName → Option (List ℕ) → TextFault → Type 0
IsFaultOfSchedule None given f = ⊥
IsFaultOfSchedule (Some s) given f = IsFaultOfLong s given f

abbrev pub IsFaultOfInputs : CheckChoice → Option (List ℕ) → TextFault → Type 0
IsFaultOfInputs c given f =
    IsFaultOfInput c.input given f ⊎ IsFaultOfSchedule c.schedule (behind c.input given) f

-- lines were checked against a text, if that ends so
abbrev pub IsChecked : Judging → (text lines : List ℕ) → Output → Result Findings TextFault → Type 0
IsChecked judging text lines out (Ok x) = ChecksIn judging text lines out (Ok x)
IsChecked judging text lines out (Err (Input f)) = ⊥
IsChecked judging text lines out (Err (Unread name)) = ⊥
IsChecked judging text lines out (Err (Run f)) = ⊥
IsChecked judging text lines out (Err (Explain f)) = ⊥
IsChecked judging text lines out (Err (Trace f)) = ⊥
IsChecked judging text lines out (Err (Replay f)) = ⊥
IsChecked judging text lines out (Err (Check f)) = ChecksIn judging text lines out (Err f)
IsChecked judging text lines out (Err (Print f)) = ⊥

-- the same, if it ends so: nothing if the input gives no text
abbrev pub IsCheckedBy : Judging → List ℕ → InputName → Option (List ℕ) → Output → Result Findings TextFault → Type 0
IsCheckedBy judging text schedule given out (Ok x) =
    ChecksGiven judging text (schedule_limit schedule) (given_by schedule given) out (Ok x)
IsCheckedBy judging text schedule given out (Err (Input f)) = IsFaultOfLong schedule given (Input f) × IsKept out
IsCheckedBy judging text schedule given out (Err (Unread name)) =
    IsFaultOfLong schedule given (Unread name) × IsKept out
IsCheckedBy judging text schedule given out (Err (Run f)) = ⊥
IsCheckedBy judging text schedule given out (Err (Explain f)) = ⊥
IsCheckedBy judging text schedule given out (Err (Trace f)) = ⊥
IsCheckedBy judging text schedule given out (Err (Replay f)) = ⊥
IsCheckedBy judging text schedule given out (Err (Check f)) =
    ChecksGiven judging text (schedule_limit schedule) (given_by schedule given) out (Err f)
IsCheckedBy judging text schedule given out (Err (Print f)) = ⊥

-- what `run` read and what it wrote as its report, if it ends so: nothing if the input gives no text
abbrev pub Executes : RunChoice → Option (List ℕ) → Output → Result Findings TextFault → Type 0
Executes r given out (Ok x) = RunsText r.options (given_by r.input given) out (Ok x)
Executes r given out (Err (Input f)) = IsFaultOfInput r.input given (Input f) × IsKept out
Executes r given out (Err (Unread name)) = IsFaultOfInput r.input given (Unread name) × IsKept out
Executes r given out (Err (Run f)) = RunsText r.options (given_by r.input given) out (Err f)
Executes r given out (Err (Explain f)) = ⊥
Executes r given out (Err (Trace f)) = ⊥
Executes r given out (Err (Replay f)) = ⊥
Executes r given out (Err (Check f)) = ⊥
Executes r given out (Err (Print f)) = ⊥

-- what `check` read and what it said, if it ends so: nothing if an input gives no text
abbrev pub Follows : CheckChoice → Option (List ℕ) → Output → Result Findings TextFault → Type 0
Follows c given out (Ok x) = ChecksSchedule c given out (Ok x)
Follows c given out (Err (Input f)) = IsFaultOfInputs c given (Input f) × IsKept out
Follows c given out (Err (Unread name)) = IsFaultOfInputs c given (Unread name) × IsKept out
Follows c given out (Err (Run f)) = ⊥
Follows c given out (Err (Explain f)) = ⊥
Follows c given out (Err (Trace f)) = ⊥
Follows c given out (Err (Replay f)) = ⊥
Follows c given out (Err (Check f)) = ChecksSchedule c given out (Err f)
Follows c given out (Err (Print f)) = ⊥

-- what `print` read and wrote, if it ends so: nothing if the input gives no text
abbrev pub Prints : InputName → Option (List ℕ) → Output → Result (Unit {0}) TextFault → Type 0
Prints input given out (Ok x) = PrintsText (given_by input given) out (Ok x)
Prints input given out (Err (Input f)) = IsFaultOfInput input given (Input f) × IsKept out
Prints input given out (Err (Unread name)) = IsFaultOfInput input given (Unread name) × IsKept out
Prints input given out (Err (Run f)) = ⊥
Prints input given out (Err (Explain f)) = ⊥
Prints input given out (Err (Trace f)) = ⊥
Prints input given out (Err (Replay f)) = ⊥
Prints input given out (Err (Check f)) = ⊥
Prints input given out (Err (Print f)) = PrintsText (given_by input given) out (Err f)

-- a text was explained under this name
abbrev pub ExplainsUnder : List ℕ → List ℕ → Output → Result Finding ExplainFault → Type 0
ExplainsUnder name text out result =
    Explains name text out.old out.new out.failed result × IfOk result (λ f. IsFindingOn f text)

-- what is told of a schedule, as of a text
abbrev pub finding_of : LineFinding → Finding
finding_of lines.NothingWrong = NothingWrong
finding_of lines.Refused = Refused

-- what came of the explanation of a schedule, as of one of a text; it came to none if the text has no system
abbrev pub IsToldAs : Result (Option LineFinding) ExplainLinesFault → Result Finding ExplainFault → Type 0
IsToldAs (Ok None) result = ⊥
IsToldAs (Ok (Some f)) result = result ≡ Ok (finding_of f)
IsToldAs (Err lines_fault.Memory) result = result ≡ Err explain.Memory
IsToldAs (Err lines_fault.Write) result = result ≡ Err explain.Write

-- the schedule that stands in an input was explained under this name, beside a text that has a system
pub record ExplainsLines (name text input : List ℕ) (out : Output) (result : Result Finding ExplainFault) : Type 0 where
  pub outcome : Result (Option LineFinding) ExplainLinesFault
  pub told : IsToldAs outcome result
  pub schedule : ExplainsSchedule text name input out.old out.new out.failed outcome

-- a text that has no system was explained under this name, and not the schedule beside it
pub record ExplainsRefused (name text : List ℕ) (out : Output) (result : Result Finding ExplainFault) : Type 0 where
  pub refused : HasNoSystem text
  pub told : ExplainsUnder name text out result

-- a schedule was explained beside a text, or the text if that is refused, each under its own name
abbrev pub ExplainsBeside : (input schedule : InputName) → (text lines : List ℕ) → Output → Result Finding ExplainFault
    → Type 0
ExplainsBeside input schedule text lines out result =
    ExplainsLines (shown_name schedule) text lines out result ⊎ ExplainsRefused (shown_name input) text out result

-- the schedule in an input of at most so many bytes was explained
abbrev pub ExplainsGiven : (input schedule : InputName) → List ℕ → ℕ → Option (List ℕ) → Output
    → Result Finding ExplainFault → Type 0
ExplainsGiven input schedule text limit other out result =
    (lines : List ℕ) × IsTextWithin limit other lines × ExplainsBeside input schedule text lines out result

-- the text of an input was explained, or the schedule in another
abbrev pub ExplainsGivenIn : InputName → Option InputName → Option (List ℕ) → Output → Result Finding ExplainFault
    → Type 0
ExplainsGivenIn input None given out result =
    (text : List ℕ) × IsTextOf (given_by input given) text × ExplainsUnder (shown_name input) text out result
ExplainsGivenIn input (Some s) given out result =
    (text : List ℕ) × IsTextOf (given_by input given) text
    × ExplainsGiven input s text (schedule_limit s) (given_behind input s given) out result

abbrev pub ExplainsInputs : ExplainChoice → Option (List ℕ) → Output → Result Finding ExplainFault → Type 0
ExplainsInputs c given out result = ExplainsGivenIn c.input c.schedule given out result

-- why an input of `explain` gives no text
abbrev pub IsFaultOfExplainInputs : ExplainChoice → Option (List ℕ) → TextFault → Type 0
IsFaultOfExplainInputs c given f =
    IsFaultOfInput c.input given f ⊎ IsFaultOfSchedule c.schedule (behind c.input given) f

-- a text was explained, if that ends so
abbrev pub IsExplainedAlone : InputName → List ℕ → Output → Result Finding TextFault → Type 0
IsExplainedAlone input text out (Ok x) = ExplainsUnder (shown_name input) text out (Ok x)
IsExplainedAlone input text out (Err (Input f)) = ⊥
IsExplainedAlone input text out (Err (Unread name)) = ⊥
IsExplainedAlone input text out (Err (Run f)) = ⊥
IsExplainedAlone input text out (Err (Explain f)) = ExplainsUnder (shown_name input) text out (Err f)
IsExplainedAlone input text out (Err (Trace f)) = ⊥
IsExplainedAlone input text out (Err (Replay f)) = ⊥
IsExplainedAlone input text out (Err (Check f)) = ⊥
IsExplainedAlone input text out (Err (Print f)) = ⊥

-- a schedule was explained beside a text, if that ends so: nothing went out if its input gives none
abbrev pub IsExplainedBy : (input schedule : InputName) → List ℕ → Option (List ℕ) → Output → Result Finding TextFault
    → Type 0
IsExplainedBy input schedule text given out (Ok x) =
    ExplainsGiven input schedule text (schedule_limit schedule) (given_by schedule given) out (Ok x)
IsExplainedBy input schedule text given out (Err (Input f)) = IsFaultOfLong schedule given (Input f) × IsKept out
IsExplainedBy input schedule text given out (Err (Unread name)) =
    IsFaultOfLong schedule given (Unread name) × IsKept out
IsExplainedBy input schedule text given out (Err (Run f)) = ⊥
IsExplainedBy input schedule text given out (Err (Explain f)) =
    ExplainsGiven input schedule text (schedule_limit schedule) (given_by schedule given) out (Err f)
IsExplainedBy input schedule text given out (Err (Trace f)) = ⊥
IsExplainedBy input schedule text given out (Err (Replay f)) = ⊥
IsExplainedBy input schedule text given out (Err (Check f)) = ⊥
IsExplainedBy input schedule text given out (Err (Print f)) = ⊥

-- what `explain` read and told, if it ends so: nothing if an input gives no text
abbrev pub IsExplained : ExplainChoice → Option (List ℕ) → Output → Result Finding TextFault → Type 0
IsExplained c given out (Ok x) = ExplainsInputs c given out (Ok x)
IsExplained c given out (Err (Input f)) = IsFaultOfExplainInputs c given (Input f) × IsKept out
IsExplained c given out (Err (Unread name)) = IsFaultOfExplainInputs c given (Unread name) × IsKept out
IsExplained c given out (Err (Run f)) = ⊥
IsExplained c given out (Err (Explain f)) = ExplainsInputs c given out (Err f)
IsExplained c given out (Err (Trace f)) = ⊥
IsExplained c given out (Err (Replay f)) = ⊥
IsExplained c given out (Err (Check f)) = ⊥
IsExplained c given out (Err (Print f)) = ⊥

-- the run of the text of the input was shown, with its verdicts
abbrev pub TracesText : TraceChoice → Option (List ℕ) → Output → Result Findings TraceFault → Type 0
TracesText t given out result =
    (text : List ℕ) × IsTextOf (given_by t.input given) text
    × ShowsRun text t.options t.format out.old out.new out.failed result
    × IfErr result (λ f. IsRefusalOfTrace f text)

-- what `trace` read and showed, if it ends so: nothing if the input gives no text
abbrev pub IsTraced : TraceChoice → Option (List ℕ) → Output → Result Findings TextFault → Type 0
IsTraced t given out (Ok found) = TracesText t given out (Ok found)
IsTraced t given out (Err (Input f)) = IsFaultOfInput t.input given (Input f) × IsKept out
IsTraced t given out (Err (Unread name)) = IsFaultOfInput t.input given (Unread name) × IsKept out
IsTraced t given out (Err (Run f)) = ⊥
IsTraced t given out (Err (Explain f)) = ⊥
IsTraced t given out (Err (Trace f)) = TracesText t given out (Err f)
IsTraced t given out (Err (Replay f)) = ⊥
IsTraced t given out (Err (Check f)) = ⊥
IsTraced t given out (Err (Print f)) = ⊥

-- lines were replayed in a text's system, and the replay was shown, with the verdicts along it; a fault is one of them,
-- and no fault of the text that is always found is passed over
abbrev pub ReplaysIn : Format → (text lines : List ℕ) → Output → Result Findings ReplayFault → Type 0
ReplaysIn format text lines out result =
    ShowsReplay text lines format out.old out.new out.failed result
    × IfErr result (λ f. IsFaultOfReplay f text lines) × IsExactForReplay result text

-- the schedule in an input of at most so many bytes was replayed
abbrev pub ReplaysGiven : Format → List ℕ → ℕ → Option (List ℕ) → Output → Result Findings ReplayFault → Type 0
ReplaysGiven format text limit other out result =
    (lines : List ℕ) × IsTextWithin limit other lines × ReplaysIn format text (schedule_part lines) out result

-- the schedule in one input was replayed in the system of the text in another
abbrev pub ReplaysSchedule : ReplayChoice → Option (List ℕ) → Output → Result Findings ReplayFault → Type 0
ReplaysSchedule r given out result =
    (text : List ℕ) × IsTextOf (given_by r.input given) text
    × ReplaysGiven r.format text (schedule_limit r.schedule)
    (given_behind r.input r.schedule given) out result

-- why an input of a replay gives no text
abbrev pub IsFaultOfReplayInputs : ReplayChoice → Option (List ℕ) → TextFault → Type 0
IsFaultOfReplayInputs r given f =
    IsFaultOfInput r.input given f ⊎ IsFaultOfLong r.schedule (behind r.input given) f

-- a schedule was replayed in a text's system, if that ends so: nothing went out if its input gives no text
abbrev pub IsReplayedBy : Format → List ℕ → InputName → Option (List ℕ) → Output → Result Findings TextFault
    → Type 0
IsReplayedBy format text schedule given out (Ok found) =
    ReplaysGiven format text (schedule_limit schedule) (given_by schedule given) out (Ok found)
IsReplayedBy format text schedule given out (Err (Input f)) = IsFaultOfLong schedule given (Input f) × IsKept out
IsReplayedBy format text schedule given out (Err (Unread name)) =
    IsFaultOfLong schedule given (Unread name) × IsKept out
IsReplayedBy format text schedule given out (Err (Run f)) = ⊥
IsReplayedBy format text schedule given out (Err (Explain f)) = ⊥
IsReplayedBy format text schedule given out (Err (Trace f)) = ⊥
IsReplayedBy format text schedule given out (Err (Replay f)) =
    ReplaysGiven format text (schedule_limit schedule) (given_by schedule given) out (Err f)
IsReplayedBy format text schedule given out (Err (Check f)) = ⊥
IsReplayedBy format text schedule given out (Err (Print f)) = ⊥

-- what `trace` read and showed of a schedule, if it ends so: nothing if an input gives no text
abbrev pub IsReplayed : ReplayChoice → Option (List ℕ) → Output → Result Findings TextFault → Type 0
IsReplayed r given out (Ok found) = ReplaysSchedule r given out (Ok found)
IsReplayed r given out (Err (Input f)) = IsFaultOfReplayInputs r given (Input f) × IsKept out
IsReplayed r given out (Err (Unread name)) = IsFaultOfReplayInputs r given (Unread name) × IsKept out
IsReplayed r given out (Err (Run f)) = ⊥
IsReplayed r given out (Err (Explain f)) = ⊥
IsReplayed r given out (Err (Trace f)) = ⊥
IsReplayed r given out (Err (Replay f)) = ReplaysSchedule r given out (Err f)
IsReplayed r given out (Err (Check f)) = ⊥
IsReplayed r given out (Err (Print f)) = ⊥

-- the status of what was done and has these findings: 4 if there is one at which the status is to tell
abbrev pub found_status : (fail_on found : Findings) → ℕ
found_status fail_on found = if meet fail_on found then 4 else 0

-- the line of want of memory
abbrev pub memory_line : List ℕ
memory_line = codes "refused 3 Memory\n"

-- a line with its status is shown as an error; if there is no memory for that line, one that says so, with status 3
abbrev pub ShowsLine : List ℕ → ℕ → ℕ → Output → Type 0
ShowsLine line of_line status err =
    ((status ≡ of_line) × Shows (line ++ codes "\n") err) ⊎ ((status ≡ 3) × Shows memory_line err)

-- a text that was asked for went out; or its output failed, or there was no memory for it, and a line with status 3
-- says so
abbrev pub ShowsAsked : ℕ → Output → Output → Type 0
ShowsAsked status out err =
    ((status ≡ 0) × (out.failed ≡ false) × ShowsText out × IsKept err)
    ⊎ ((status ≡ 3) × ((ShowsText out × Shows (codes "failed 71 Write\n") err) ⊎ (IsKept out × Shows memory_line err)))

-- what is shown of an error of the words: a text that was asked for, if the status of its kind is 0, else the error's
-- text as an error, or a line that says that memory ran out
pub record ShowsWords (kind : ErrorKind) (status : ℕ) (out err : Output) : Type 0 where
  pub asked : words_status kind ≡ 0 → ShowsAsked status out err
  pub refused : (words_status kind ≡ 0 → ⊥)
      → IsKept out × (((status ≡ words_status kind) × ShowsText err) ⊎ ((status ≡ 3) × Shows memory_line err))

-- a status, and what is shown as an error: nothing if all was done, else the line of the fault
abbrev pub Tells : {T : Type 0} → (T → ℕ) → Output → ℕ → Result T TextFault → Type 0
Tells done err status (Ok x) = (status ≡ done x) × IsKept err
Tells done err status (Err f) = ShowsLine (fault_line f) (fault_status f) status err

-- the status of what is done without a finding
abbrev pub no_finding : Unit {0} → ℕ
no_finding x = 0

-- the status of what is told of a text: 1 if it is refused
abbrev pub explained_status : Finding → ℕ
explained_status NothingWrong = 0
explained_status Refused = 1

-- the program ends as the subcommand does
abbrev pub EndsAs : Subcommand → Option (List ℕ) → Output → Output → ℕ → Type 0
EndsAs (subcommand.Run r) given out err status =
    (outcome : Result Findings TextFault) × Executes r given out outcome
    × Tells (found_status r.fail_on) err status outcome
EndsAs (subcommand.Explain c) given out err status =
    (outcome : Result Finding TextFault) × IsExplained c given out outcome
    × Tells explained_status err status outcome
EndsAs (subcommand.Trace t) given out err status =
    (outcome : Result Findings TextFault) × IsTraced t given out outcome
    × Tells (found_status t.fail_on) err status outcome
EndsAs (subcommand.Replay r) given out err status =
    (outcome : Result Findings TextFault) × IsReplayed r given out outcome
    × Tells (found_status r.fail_on) err status outcome
EndsAs (subcommand.Check c) given out err status =
    (outcome : Result Findings TextFault) × Follows c given out outcome
    × Tells (found_status c.fail_on) err status outcome
EndsAs (subcommand.Print input) given out err status =
    (outcome : Result (Unit {0}) TextFault) × Prints input given out outcome × Tells no_finding err status outcome

-- the words choose a subcommand, and the program ends as that does
abbrev pub EndsChosen : List Text → Option (List ℕ) → Output → Output → ℕ → Type 0
EndsChosen words given out err status =
    (chosen : Subcommand) × Chooses words chosen × EndsAs chosen given out err status

-- clap refuses the words, they choose nothing, or memory ran out, and the program shows the text of that error
abbrev pub EndsWords : List Text → Output → Output → ℕ → Type 0
EndsWords words out err status = (e : Error) × IsErrorOf words e × ShowsWords (kind_of e) status out err

-- the status that the program returns, and what it reads, writes and shows
abbrev pub Ends : List Text → Option (List ℕ) → Output → Output → ℕ → Type 0
Ends words given out err status = EndsChosen words given out err status ⊎ EndsWords words out err status

-- a report went out, and the status tells what it has
abbrev pub Reports : List Text → Option (List ℕ) → Output → ℕ → Type 0
Reports words given out status =
    (r : RunChoice) × Chooses words (subcommand.Run r)
    × ((found : Findings) × RunsText r.options (given_by r.input given) out (Ok found)
    × (status ≡ found_status r.fail_on found))

-- a schedule is an execution, and the status tells what its verdicts come to
abbrev pub Judges : List Text → Option (List ℕ) → Output → ℕ → Type 0
Judges words given out status =
    (c : CheckChoice) × Chooses words (subcommand.Check c)
    × ((found : Findings) × ChecksSchedule c given out (Ok found) × (status ≡ found_status c.fail_on found))

-- a run was shown, and the status tells what its verdicts come to
abbrev pub Traces : List Text → Option (List ℕ) → Output → ℕ → Type 0
Traces words given out status =
    (t : TraceChoice) × Chooses words (subcommand.Trace t)
    × ((found : Findings) × TracesText t given out (Ok found) × (status ≡ found_status t.fail_on found))

-- the replay of a schedule was shown, and the status tells what its verdicts come to
abbrev pub Replays : List Text → Option (List ℕ) → Output → ℕ → Type 0
Replays words given out status =
    (r : ReplayChoice) × Chooses words (subcommand.Replay r)
    × ((found : Findings) × ReplaysSchedule r given out (Ok found) × (status ≡ found_status r.fail_on found))

-- what status 4 says: a report went out, a run or the replay of a schedule was shown, or a schedule is an execution,
-- and there is a finding at which the status is to tell
abbrev pub IsFound : List Text → Option (List ℕ) → Output → Type 0
IsFound words given out =
    Reports words given out 4
    ⊎ (Traces words given out 4 ⊎ (Replays words given out 4 ⊎ Judges words given out 4))

-- lines were refused with this fault, whether the reason is told with it or stands in what was shown
abbrev pub IsLinesRefusal : ReplayFault → Type 0
IsLinesRefusal (replay.Check (check.Front f)) = ⊥
IsLinesRefusal (replay.Check (check.Check f)) = ⊥
IsLinesRefusal (replay.Check (check.Schedule f)) = ⊤
IsLinesRefusal (replay.Check check.Memory) = ⊥
IsLinesRefusal (replay.Check check.Write) = ⊥
IsLinesRefusal (replay.NoStep f why) = ⊤
IsLinesRefusal replay.Differs = ⊥

-- a schedule was refused, and what is before the refused line or the refused step was shown
abbrev pub ReplaysRefused : List Text → Option (List ℕ) → Output → Type 0
ReplaysRefused words given out =
    (r : ReplayChoice) × Chooses words (subcommand.Replay r)
    × ((f : ReplayFault) × IsLinesRefusal f × ReplaysSchedule r given out (Err f))

-- an explanation went out, and it says so of the text, or of the schedule
abbrev pub ExplainsAs : Finding → List Text → Option (List ℕ) → Output → Type 0
ExplainsAs f words given out =
    (c : ExplainChoice) × Chooses words (subcommand.Explain c) × ExplainsInputs c given out (Ok f)

-- what status 0 says: the report of the text that was read went out, and it has no finding at which the status is to
-- tell; or nothing is wrong with the text or the schedule; or its run was shown, or the replay of the schedule that was read, and has
-- no such finding; or that schedule is an execution of the text's system, and has none; or the text went out laid out
-- anew; or a text for which the words ask
abbrev pub IsDone : List Text → Option (List ℕ) → Output → Type 0
IsDone words given out =
    Reports words given out 0
    ⊎ (ExplainsAs NothingWrong words given out
    ⊎ (Traces words given out 0
    ⊎ (Replays words given out 0
    ⊎ (Judges words given out 0
    ⊎ (((input : InputName) × Chooses words (subcommand.Print input) × PrintsText (given_by input given) out (Ok tt))
    ⊎ (AsksForText words × ShowsText out))))))
