-- What was read, and why nothing was.
use Rattle.std.proofs.Common.{◌≡◌, ◌∙◌, List, ℕ, Option, Some, None, Result, Ok, Err, inl, inr, subst, sym}
use Rattle.ioa_monitor.specs.declared.findings.Findings.{Findings}
use Rattle.ioa_streams.specs.Parts.{lines_part, text_part}
use Rattle.ioa_streams.specs.ScheduleParts.{schedule_part}
use Rattle.ioa_streams.specs.declared.input.TheConstants.{INPUT_LIMIT, SCHEDULE_LIMIT}
use Rattle.ioa_streams.specs.declared.input.InputFault.TheVariants.{Memory, Read}
use Rattle.ioa_pipeline.specs.declared.judging.Judging.{Judging}
use Rattle.ioa_pipeline.specs.declared.schedule_check.CheckScheduleFault.{CheckScheduleFault}
use Rattle.ioa_pipeline.specs.Judging.{SaysJudged}
use Rattle.ioa_pipeline.specs.ScheduleChecks.{IsExactForCheck, IsFaultOfCheck}
use Rattle.ioa_pipeline.specs.declared.tracing.TraceFault.{TraceFault}
use Rattle.ioa_pipeline.specs.Tracing.{IsRefusalOfTrace, ShowsRun}
use Rattle.ioa_pipeline.specs.declared.whole_run.RunFault.{RunFault}
use Rattle.ioa_pipeline.specs.WholeRun.{IsExactFor, IsFaultOfWorkers, IsRefusalOf, WritesReport}
use Rattle.ioa_command.specs.declared.choice.InputName.{InputName}
use Rattle.ioa_command.specs.declared.choice.InputName.TheVariants.{Standard, File}
use Rattle.ioa_command.specs.declared.choice.RunChoice.{RunChoice}
use Rattle.ioa_command.specs.declared.choice.TraceChoice.{TraceChoice}
use Rattle.ioa_command.specs.declared.choice.CheckChoice.{CheckChoice}
use Rattle.ioa_command.specs.declared.faults.TextFault.{TextFault}
use Rattle.ioa_command.specs.declared.faults.TextFault.TheVariants.{Input, Unread, Run, Explain, Trace, Replay, Check, Print}
use Rattle.ioa_command.specs.Command.{ChecksGivenIn, Executes, Follows, IsChecked, IsCheckedBy}
use Rattle.ioa_command.specs.Command.{IsFaultOfSchedule, IsKept, IsTraced, Output, Prints}
use Rattle.ioa_command.specs.Inputs.{IsFaultOfFile, IsFaultOfInput, IsFaultOfLong, IsFaultWithin, IsTextOf}
use Rattle.ioa_command.specs.Inputs.{IsTextWithin, IsUnread, KeepsStandard, behind, given_behind, given_by}
use Rattle.ioa_command.specs.Inputs.{schedule_limit}

-- a fault of reading
abbrev pub IsReading : TextFault → Type 0
IsReading (Input f) = Unit {0}
IsReading (Unread name) = Unit {0}
IsReading (Run f) = ⊥
IsReading (Explain f) = ⊥
IsReading (Trace f) = ⊥
IsReading (Replay f) = ⊥
IsReading (Check f) = ⊥
IsReading (Print f) = ⊥

-- a file that can't be read gives no text, whatever its limit
pub unread_file : (limit : ℕ) (name : List ℕ) (f : TextFault) → IsUnread name f → IsFaultOfFile limit name f
unread_file limit name (Input f) h = ((λ read. let bad : Memory ≡ Read = sym h ∙ read in absurd (cc)), rw h tt)
unread_file limit name (Unread of) h = h
unread_file limit name (Run f) h = absurd h
unread_file limit name (Explain f) h = absurd h
unread_file limit name (Trace f) h = absurd h
unread_file limit name (Replay f) h = absurd h
unread_file limit name (Check f) h = absurd h
unread_file limit name (Print f) h = absurd h

-- what gives no text has no other fault
reading_within : (limit : ℕ) (input : InputName) (given : Option (List ℕ)) (f : TextFault)
    → IsFaultWithin limit input given f → IsReading f
reading_within limit Standard given (Input f) h = tt
reading_within limit Standard given (Unread name) h = absurd h
reading_within limit Standard given (Run f) h = absurd h
reading_within limit Standard given (Explain f) h = absurd h
reading_within limit Standard given (Trace f) h = absurd h
reading_within limit Standard given (Replay f) h = absurd h
reading_within limit Standard given (Check f) h = absurd h
reading_within limit Standard given (Print f) h = absurd h
reading_within limit (File of) given (Input f) h = tt
reading_within limit (File of) given (Unread name) h = tt
reading_within limit (File of) given (Run f) h = absurd h
reading_within limit (File of) given (Explain f) h = absurd h
reading_within limit (File of) given (Trace f) h = absurd h
reading_within limit (File of) given (Replay f) h = absurd h
reading_within limit (File of) given (Check f) h = absurd h
reading_within limit (File of) given (Print f) h = absurd h

pub is_reading : (input : InputName) (given : Option (List ℕ)) (f : TextFault) → IsFaultOfInput input given f → IsReading f
is_reading input given f h = reading_within INPUT_LIMIT input given f h

pub is_reading_long : (input : InputName) (given : Option (List ℕ)) (f : TextFault) → IsFaultOfLong input given f
    → IsReading f
is_reading_long input given f h = reading_within SCHEDULE_LIMIT input given f h

-- a subcommand ends so if its input gives no text
pub executes_unread : (r : RunChoice) (given : Option (List ℕ)) (out : Output) (f : TextFault)
    → IsFaultOfInput r.input given f → IsKept out → Executes r given out (Err f)
executes_unread r given out (Input f) h kept = (h, kept)
executes_unread r given out (Unread name) h kept = (h, kept)
executes_unread r given out (Run f) h kept = absurd (is_reading r.input given (Run f) h)
executes_unread r given out (Explain f) h kept = absurd (is_reading r.input given (Explain f) h)
executes_unread r given out (Trace f) h kept = absurd (is_reading r.input given (Trace f) h)
executes_unread r given out (Replay f) h kept = absurd (is_reading r.input given (Replay f) h)
executes_unread r given out (Check f) h kept = absurd (is_reading r.input given (Check f) h)
executes_unread r given out (Print f) h kept = absurd (is_reading r.input given (Print f) h)

-- and so if its text was run
pub executes_run : (r : RunChoice) (given : Option (List ℕ)) (text : List ℕ) (out : Output) (found : Findings)
    → IsTextOf (given_by r.input given) text
    → WritesReport text r.options out.old out.new out.failed (Ok found) → IsExactFor {T = Findings} (Ok found) text
    → Executes r given out (Ok found)
executes_run r given text out found t written exact = (text, t, written, tt, exact, tt)

pub executes_fault : (r : RunChoice) (given : Option (List ℕ)) (text : List ℕ) (out : Output) (f : RunFault)
    → IsTextOf (given_by r.input given) text
    → WritesReport text r.options out.old out.new out.failed (Err f) → IsRefusalOf f text
    → IsExactFor {T = Findings} (Err f) text → IsFaultOfWorkers r.options.workers f → Executes r given out (Err (Run f))
executes_fault r given text out f t written refused exact workers = (text, t, written, refused, exact, workers)

pub traces_unread : (t : TraceChoice) (given : Option (List ℕ)) (out : Output) (f : TextFault)
    → IsFaultOfInput t.input given f → IsKept out → IsTraced t given out (Err f)
traces_unread t given out (Input f) h kept = (h, kept)
traces_unread t given out (Unread name) h kept = (h, kept)
traces_unread t given out (Run f) h kept = absurd (is_reading t.input given (Run f) h)
traces_unread t given out (Explain f) h kept = absurd (is_reading t.input given (Explain f) h)
traces_unread t given out (Trace f) h kept = absurd (is_reading t.input given (Trace f) h)
traces_unread t given out (Replay f) h kept = absurd (is_reading t.input given (Replay f) h)
traces_unread t given out (Check f) h kept = absurd (is_reading t.input given (Check f) h)
traces_unread t given out (Print f) h kept = absurd (is_reading t.input given (Print f) h)

-- and so if the run of its text was shown
pub traces_run : (t : TraceChoice) (given : Option (List ℕ)) (text : List ℕ) (out : Output) (found : Findings)
    → IsTextOf (given_by t.input given) text
    → ShowsRun text t.options t.format out.old out.new out.failed (Ok found)
    → IsTraced t given out (Ok found)
traces_run t given text out found is shown = (text, is, shown, tt)

pub traces_fault : (t : TraceChoice) (given : Option (List ℕ)) (text : List ℕ) (out : Output) (f : TraceFault)
    → IsTextOf (given_by t.input given) text
    → ShowsRun text t.options t.format out.old out.new out.failed (Err f) → IsRefusalOfTrace f text
    → IsTraced t given out (Err (Trace f))
traces_fault t given text out f is shown refused = (text, is, shown, refused)

pub prints_unread : (input : InputName) (given : Option (List ℕ)) (out : Output) (f : TextFault)
    → IsFaultOfInput input given f → IsKept out → Prints input given out (Err f)
prints_unread input given out (Input f) h kept = (h, kept)
prints_unread input given out (Unread name) h kept = (h, kept)
prints_unread input given out (Run f) h kept = absurd (is_reading input given (Run f) h)
prints_unread input given out (Explain f) h kept = absurd (is_reading input given (Explain f) h)
prints_unread input given out (Trace f) h kept = absurd (is_reading input given (Trace f) h)
prints_unread input given out (Replay f) h kept = absurd (is_reading input given (Replay f) h)
prints_unread input given out (Check f) h kept = absurd (is_reading input given (Check f) h)
prints_unread input given out (Print f) h kept = absurd (is_reading input given (Print f) h)

pub follows_unread : (c : CheckChoice) (given : Option (List ℕ)) (out : Output) (f : TextFault)
    → IsFaultOfInput c.input given f → IsKept out → Follows c given out (Err f)
follows_unread c given out (Input f) h kept = (inl h, kept)
follows_unread c given out (Unread name) h kept = (inl h, kept)
follows_unread c given out (Run f) h kept = absurd (is_reading c.input given (Run f) h)
follows_unread c given out (Explain f) h kept = absurd (is_reading c.input given (Explain f) h)
follows_unread c given out (Trace f) h kept = absurd (is_reading c.input given (Trace f) h)
follows_unread c given out (Replay f) h kept = absurd (is_reading c.input given (Replay f) h)
follows_unread c given out (Check f) h kept = absurd (is_reading c.input given (Check f) h)
follows_unread c given out (Print f) h kept = absurd (is_reading c.input given (Print f) h)

pub checked_unread : (judging : Judging) (text : List ℕ) (s : InputName) (given : Option (List ℕ)) (out : Output)
    (f : TextFault) → IsFaultOfLong s given f → IsKept out → IsCheckedBy judging text s given out (Err f)
checked_unread judging text s given out (Input f) h kept = (h, kept)
checked_unread judging text s given out (Unread name) h kept = (h, kept)
checked_unread judging text s given out (Run f) h kept = absurd (is_reading_long s given (Run f) h)
checked_unread judging text s given out (Explain f) h kept = absurd (is_reading_long s given (Explain f) h)
checked_unread judging text s given out (Trace f) h kept = absurd (is_reading_long s given (Trace f) h)
checked_unread judging text s given out (Replay f) h kept = absurd (is_reading_long s given (Replay f) h)
checked_unread judging text s given out (Check f) h kept = absurd (is_reading_long s given (Check f) h)
checked_unread judging text s given out (Print f) h kept = absurd (is_reading_long s given (Print f) h)

-- lines were checked, if that was judged so
pub judged_done : (judging : Judging) (text lines : List ℕ) (out : Output) (found : Findings)
    → SaysJudged judging text lines out.old out.new out.failed (Ok found)
    → IsExactForCheck {T = Findings} (Ok found) text → IsChecked judging text lines out (Ok found)
judged_done judging text lines out found said exact = (said, tt, exact)

pub judged_fault : (judging : Judging) (text lines : List ℕ) (out : Output) (f : CheckScheduleFault)
    → SaysJudged judging text lines out.old out.new out.failed (Err f) → IsFaultOfCheck f text lines
    → IsExactForCheck {T = Findings} (Err f) text → IsChecked judging text lines out (Err (Check f))
judged_fault judging text lines out f said refused exact = (said, refused, exact)

-- and so were those of an input that was read
pub checked_given : (judging : Judging) (text lines : List ℕ) (s : InputName) (given : Option (List ℕ)) (out : Output)
    (r : Result Findings TextFault) → IsTextWithin (schedule_limit s) (given_by s given) lines
    → IsChecked judging text (schedule_part lines) out r → IsCheckedBy judging text s given out r
checked_given judging text lines s given out (Ok x) t h = (lines, t, h)
checked_given judging text lines s given out (Err (Input f)) t h = absurd h
checked_given judging text lines s given out (Err (Unread name)) t h = absurd h
checked_given judging text lines s given out (Err (Run f)) t h = absurd h
checked_given judging text lines s given out (Err (Explain f)) t h = absurd h
checked_given judging text lines s given out (Err (Trace f)) t h = absurd h
checked_given judging text lines s given out (Err (Replay f)) t h = absurd h
checked_given judging text lines s given out (Err (Check f)) t h = (lines, t, h)
checked_given judging text lines s given out (Err (Print f)) t h = absurd h

-- what is known of an input that is read behind another
pub text_behind : (limit : ℕ) (input s : InputName) (old mid : Option (List ℕ)) (text : List ℕ)
    → KeepsStandard input old mid → IsTextWithin limit (given_by s mid) text
    → IsTextWithin limit (given_behind input s old) text
text_behind limit Standard Standard old mid text kept h = (h.0, h.1, tt)
text_behind limit Standard (File name) old mid text kept h = h
text_behind limit (File of) s old mid text kept h = subst (λ m. IsTextWithin limit (given_by s m) text) kept h

pub fault_behind : (input s : InputName) (old mid : Option (List ℕ)) (f : TextFault) → KeepsStandard input old mid
    → IsFaultOfLong s mid f → IsFaultOfLong s (behind input old) f
fault_behind Standard Standard old mid (Input f) kept h = (tt, h.1)
fault_behind Standard Standard old mid (Unread name) kept h = absurd h
fault_behind Standard Standard old mid (Run f) kept h = absurd h
fault_behind Standard Standard old mid (Explain f) kept h = absurd h
fault_behind Standard Standard old mid (Trace f) kept h = absurd h
fault_behind Standard Standard old mid (Replay f) kept h = absurd h
fault_behind Standard Standard old mid (Check f) kept h = absurd h
fault_behind Standard Standard old mid (Print f) kept h = absurd h
fault_behind Standard (File name) old mid f kept h = h
fault_behind (File of) s old mid f kept h = subst (λ m. IsFaultOfLong s m f) kept h

-- a schedule of its own
pub follows_apart : (c : CheckChoice) (s : InputName) (given mid : Option (List ℕ)) (text : List ℕ) (out : Output)
    (r : Result Findings TextFault) → c.schedule ≡ Some s → KeepsStandard c.input given mid
    → IsTextOf (given_by c.input given) text → IsCheckedBy c.judging text s mid out r → Follows c given out r
follows_apart c s given mid text out (Ok x) is kept t h =
    subst (λ o. ChecksGivenIn c.judging c.input o given out (Ok x)) (sym is)
    (text, t, (h.0, text_behind (schedule_limit s) c.input s given mid h.0 kept h.1, h.2))
follows_apart c s given mid text out (Err (Input f)) is kept t h = (
  inr (subst (λ o. IsFaultOfSchedule o (behind c.input given) (Input f)) (sym is)
      (fault_behind c.input s given mid (Input f) kept h.0)),
  h.1,
)
follows_apart c s given mid text out (Err (Unread name)) is kept t h = (
  inr (subst (λ o. IsFaultOfSchedule o (behind c.input given) (Unread name)) (sym is)
      (fault_behind c.input s given mid (Unread name) kept h.0)),
  h.1,
)
follows_apart c s given mid text out (Err (Run f)) is kept t h = absurd h
follows_apart c s given mid text out (Err (Explain f)) is kept t h = absurd h
follows_apart c s given mid text out (Err (Trace f)) is kept t h = absurd h
follows_apart c s given mid text out (Err (Replay f)) is kept t h = absurd h
follows_apart c s given mid text out (Err (Check f)) is kept t h =
    subst (λ o. ChecksGivenIn c.judging c.input o given out (Err f)) (sym is)
    (text, t, (h.0, text_behind (schedule_limit s) c.input s given mid h.0 kept h.1, h.2))
follows_apart c s given mid text out (Err (Print f)) is kept t h = absurd h

-- a schedule behind the text
pub follows_parts : (c : CheckChoice) (given : Option (List ℕ)) (input : List ℕ) (out : Output)
    (r : Result Findings TextFault) → c.schedule ≡ None → IsTextOf (given_by c.input given) input
    → IsChecked c.judging (text_part input) (lines_part input) out r → Follows c given out r
follows_parts c given input out (Ok x) is t h =
    subst (λ o. ChecksGivenIn c.judging c.input o given out (Ok x)) (sym is) (input, t, h)
follows_parts c given input out (Err (Input f)) is t h = absurd h
follows_parts c given input out (Err (Unread name)) is t h = absurd h
follows_parts c given input out (Err (Run f)) is t h = absurd h
follows_parts c given input out (Err (Explain f)) is t h = absurd h
follows_parts c given input out (Err (Trace f)) is t h = absurd h
follows_parts c given input out (Err (Replay f)) is t h = absurd h
follows_parts c given input out (Err (Check f)) is t h =
    subst (λ o. ChecksGivenIn c.judging c.input o given out (Err f)) (sym is) (input, t, h)
follows_parts c given input out (Err (Print f)) is t h = absurd h

pub ruleset follow_rules = (follows_unread, follows_apart, follows_parts)

pub ruleset judged_rules = (judged_done, judged_fault)

pub ruleset apart_rules = (checked_unread, checked_given)

pub ruleset run_rules = (executes_unread, executes_run, executes_fault)

pub ruleset trace_rules = (traces_unread, traces_run, traces_fault)
