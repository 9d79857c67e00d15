-- Schedules that are given beside a text, shown step by step or as pictures (profile).
use Rattle.std.specs.Prelude.{◌≡◌, ◌⊎◌, ◌++◌, ⊤, ℕ, Bool, false, List, [], Option, Some, None, Result, Ok, Err}
use Rattle.std.specs.Prelude.{codes}
use Rattle.std.specs.Io.KnownBytes.{Keeps, Appends}
use Rattle.ioa_streams.specs.declared.output.OutFailed.{OutFailed}
use Rattle.ioa_system.specs.Systems.{SystemParts}
use Rattle.ioa_transitions.specs.Entries.{PlainEntry}
use Rattle.ioa_compose.specs.declared.configuration.Conf.{Conf}
use Rattle.ioa_compose.specs.Executions.{replay}
use Rattle.ioa_compose.specs.Start.{start}
use Rattle.ioa_explain_schedule.specs.Reasons.{IsReasonIf}
use Rattle.ioa_schedule_check.specs.declared.fault.ScheduleFault.{ScheduleFault}
use Rattle.ioa_schedule_check.specs.declared.fault.ScheduleFault.TheVariants as schedule
use Rattle.ioa_schedule_check.specs.Schedules.{schedule_answer, schedule_fault_text}
use Rattle.ioa_schedule_check.specs.Taken.{IsRefusedIf, IsWholeIf, answer_by, taken_of}
use Rattle.ioa_monitor.specs.declared.findings.Findings.{Findings}
use Rattle.ioa_monitor.specs.Judged.{schedule_findings}
use Rattle.ioa_verdicts.specs.Verdicts.{verdicts_of}
use Rattle.ioa_verdicts.specs.declared.verdict.Verdict.{Verdict}
use Rattle.ioa_paper.specs.declared.fault.ReportFault.{ReportFault}
use Rattle.ioa_paper.specs.declared.fault.ReportFault.TheVariants as report
use Rattle.ioa_tell.specs.Schedules.{TellsSchedule}
use Rattle.ioa_tell.specs.declared.fault.TellFault.{TellFault}
use Rattle.ioa_tell.specs.declared.fault.TellFault.TheVariants as tell
use Rattle.ioa_tell_text.specs.Teller.{PlainTeller, teller_after, teller_ended, teller_refused}
use Rattle.ioa_show.specs.Diagrams.{diagram_of}
use Rattle.ioa_show.specs.Sequences.{sequence_of}
use Rattle.ioa_show.specs.Shown.{PutsText, PutsWhole}
use Rattle.ioa_show.specs.States.{states_text}
use Rattle.ioa_show.specs.Steps.{steps_text}
use Rattle.ioa_pipeline.specs.declared.replaying.ReplayFault.{ReplayFault}
use Rattle.ioa_pipeline.specs.declared.replaying.ReplayFault.TheVariants.{Check, NoStep, Differs}
use Rattle.ioa_pipeline.specs.declared.schedule_check.CheckScheduleFault.TheVariants as check
use Rattle.ioa_pipeline.specs.declared.tracing.Format.{Format}
use Rattle.ioa_pipeline.specs.declared.tracing.Format.TheVariants as format
use Rattle.ioa_pipeline.specs.Described.{IsDescribed, IsExactBy}
use Rattle.ioa_pipeline.specs.ScheduleChecks.{IsFaultOfCheck, check_schedule_fault_text}
use Rattle.ioa_pipeline.specs.Tracing.{begun_teller}

-- the text of a replay that is told goes out whole: each of these entries in order, from the start of the system on, and
-- behind them the entry that is no step, if there is one, and the verdicts
pub record PutsReplay (s : SystemParts) (entries : List PlainEntry) (refused : Option PlainEntry)
    (verdicts : List Verdict) (old new : Option (List ℕ)) (failed : Bool) : Type 0 where
  pub output : ℕ
  pub told : PlainTeller
  pub tells : TellsSchedule (λ e a b. b ≡ teller_after e a) (λ k e r a b. b ≡ teller_refused k e r a) s entries refused
      (begun_teller s verdicts old output) told
  pub well : failed ≡ false
  pub whole : Appends old new (teller_ended told).paper.text

-- what went out whole of steps in a format: a telling of them, or the text that they and these verdicts determine
abbrev pub IsReplayShown : Format → SystemParts → List PlainEntry → Option PlainEntry → List Verdict
    → (old new : Option (List ℕ)) → Bool → Type 0
IsReplayShown format.Text s entries refused vs old new failed =
    PutsReplay s entries refused vs old new failed
IsReplayShown format.Json s entries refused vs old new failed =
    PutsText (steps_text s entries [] vs) old new failed (Ok tt)
IsReplayShown format.States s entries refused vs old new failed =
    PutsText (states_text s entries [] vs) old new failed (Ok tt)
IsReplayShown format.Diagram s entries refused vs old new failed =
    PutsWhole (diagram_of s entries [] vs) old new failed (Ok tt)
IsReplayShown format.Sequence s entries refused vs old new failed =
    PutsWhole (sequence_of s entries []) old new failed (Ok tt)

-- what went out of steps in a format, of which putting them out had a fault; of a telling nothing is said
abbrev pub IsReplayPart : Format → SystemParts → List PlainEntry → List Verdict → (old new : Option (List ℕ)) → Bool
    → ReportFault → Type 0
IsReplayPart format.Text s entries vs old new failed e = ⊤
IsReplayPart format.Json s entries vs old new failed e = PutsText (steps_text s entries [] vs) old new failed (Err e)
IsReplayPart format.States s entries vs old new failed e = PutsText (states_text s entries [] vs) old new failed (Err e)
IsReplayPart format.Diagram s entries vs old new failed e = PutsWhole (diagram_of s entries [] vs) old new failed (Err e)
IsReplayPart format.Sequence s entries vs old new failed e = PutsWhole (sequence_of s entries []) old new failed (Err e)

-- what putting steps out came to, as an outcome of a replay
abbrev pub replay_shown : Result (Unit {0}) ReportFault → Result (Unit {0}) ReplayFault
replay_shown (Ok x) = Ok tt
replay_shown (Err report.Memory) = Err (Check check.Memory)
replay_shown (Err report.Write) = Err (Check check.Write)

-- what a telling came to: the telling, and then whether all of its text went out
abbrev pub replay_told : Result (Unit {0}) TellFault → Result (Unit {0}) OutFailed → Result (Unit {0}) ReplayFault
replay_told (Err tell.Memory) sent = Err (Check check.Memory)
replay_told (Err tell.Differs) sent = Err Differs
replay_told (Ok x) (Err f) = Err (Check check.Write)
replay_told (Ok x) (Ok y) = Ok tt

-- how these steps are shown with these verdicts, and behind them the entry that is no step; no fault is one of the text
-- or of the lines
abbrev pub ShowsSteps : SystemParts → List PlainEntry → Option PlainEntry → List Verdict → Format
    → (old new : Option (List ℕ)) → Bool → Result (Unit {0}) ReplayFault → Type 0
ShowsSteps s entries refused vs f old new failed (Ok x) = IsReplayShown f s entries refused vs old new failed
ShowsSteps s entries refused vs f old new failed (Err (Check (check.Front e))) = ⊥
ShowsSteps s entries refused vs f old new failed (Err (Check (check.Check e))) = ⊥
ShowsSteps s entries refused vs f old new failed (Err (Check (check.Schedule e))) = ⊥
ShowsSteps s entries refused vs f old new failed (Err (Check check.Memory)) =
    IsReplayPart f s entries vs old new failed report.Memory
ShowsSteps s entries refused vs f old new failed (Err (Check check.Write)) =
    IsReplayPart f s entries vs old new failed report.Write
ShowsSteps s entries refused vs f old new failed (Err (NoStep e why)) = ⊥
ShowsSteps s entries refused vs f old new failed (Err Differs) = ⊤

-- the same with the verdicts along these steps, and what they come to; if memory ran out for them, nothing went out
abbrev pub ShowsJudged : SystemParts → List PlainEntry → Option PlainEntry → Format → (old new : Option (List ℕ))
    → Bool → Result Findings ReplayFault → Type 0
ShowsJudged s entries refused f old new failed (Ok found) =
    (found ≡ schedule_findings s entries) × IsReplayShown f s entries refused (verdicts_of s entries) old new failed
ShowsJudged s entries refused f old new failed (Err (Check (check.Front e))) = ⊥
ShowsJudged s entries refused f old new failed (Err (Check (check.Check e))) = ⊥
ShowsJudged s entries refused f old new failed (Err (Check (check.Schedule e))) = ⊥
ShowsJudged s entries refused f old new failed (Err (Check check.Memory)) =
    Keeps old new ⊎ IsReplayPart f s entries (verdicts_of s entries) old new failed report.Memory
ShowsJudged s entries refused f old new failed (Err (Check check.Write)) =
    IsReplayPart f s entries (verdicts_of s entries) old new failed report.Write
ShowsJudged s entries refused f old new failed (Err (NoStep e why)) = ⊥
ShowsJudged s entries refused f old new failed (Err Differs) = ⊤

-- the reason that a refusal has with it is true of the entry that is refused, behind these entries
pub record IsReasonBehind (s : SystemParts) (entries : List PlainEntry) (refused : Option PlainEntry) (why : List ℕ)
    : Type 0 where
  pub states : List Conf
  pub reached : replay entries (start s) ≡ Some states
  pub reason : IsReasonIf states s.names refused (Some why)

-- the same of a reason, if there is one
abbrev pub IsReasonBeside : SystemParts → List PlainEntry → Option PlainEntry → Option (List ℕ) → Type 0
IsReasonBeside s entries refused None = ⊤
IsReasonBeside s entries refused (Some why) = IsReasonBehind s entries refused why

-- how the steps before a refusal are shown, which is told then
abbrev pub ShowsRefused : SystemParts → List PlainEntry → Option PlainEntry → ScheduleFault → Format
    → (old new : Option (List ℕ)) → Bool → Result Findings ReplayFault → Type 0
ShowsRefused s entries refused e f old new failed (Ok found) = ⊥
ShowsRefused s entries refused e f old new failed (Err (Check (check.Front g))) = ⊥
ShowsRefused s entries refused e f old new failed (Err (Check (check.Check g))) = ⊥
ShowsRefused s entries refused e f old new failed (Err (Check (check.Schedule g))) =
    (g ≡ e) × (e ≡ schedule.Memory → ⊥)
    × IsReplayShown f s entries refused (verdicts_of s entries) old new failed
ShowsRefused s entries refused e f old new failed (Err (Check check.Memory)) =
    Keeps old new ⊎ IsReplayPart f s entries (verdicts_of s entries) old new failed report.Memory
ShowsRefused s entries refused e f old new failed (Err (Check check.Write)) =
    IsReplayPart f s entries (verdicts_of s entries) old new failed report.Write
ShowsRefused s entries refused e f old new failed (Err (NoStep g why)) =
    (g ≡ e) × (e ≡ schedule.Memory → ⊥)
    × IsReplayShown f s entries refused (verdicts_of s entries) old new failed × IsReasonBehind s entries refused why
ShowsRefused s entries refused e f old new failed (Err Differs) = ⊤

-- the refusal of lines, with its reason if that is to be told beside what is shown
abbrev pub refusal_with : ScheduleFault → Option (List ℕ) → ReplayFault
refusal_with e None = Check (check.Schedule e)
refusal_with e (Some why) = NoStep e why

-- how a schedule is shown that has a refusal or none
abbrev pub ShowsGiven : SystemParts → List PlainEntry → Option PlainEntry → Option ScheduleFault → Format
    → (old new : Option (List ℕ)) → Bool → Result Findings ReplayFault → Type 0
ShowsGiven s entries refused None f old new failed r = ShowsJudged s entries refused f old new failed r
ShowsGiven s entries refused (Some e) f old new failed r = ShowsRefused s entries refused e f old new failed r

-- the steps that lines take from the start of a system went out whole, and behind them the entry that is no step; this
-- is the refusal of the lines, if they have one. If they have none, they are an execution, and these are its entries
pub record IsReplayIn (s : SystemParts) (lines : List ℕ) (f : Format) (refusal : Option ScheduleFault)
    (old new : Option (List ℕ)) (failed : Bool) : Type 0 where
  pub answer : answer_by refusal ≡ schedule_answer s lines
  pub whole : IsWholeIf refusal s lines (taken_of s lines)
  pub refused : Option PlainEntry
  pub is_refused : IsRefusedIf refusal s lines (taken_of s lines) refused
  pub shown : IsReplayShown f s (taken_of s lines) refused (verdicts_of s (taken_of s lines)) old new failed

-- how the lines of a schedule are shown in a system; what is found are the verdicts along them, which are shown, too
abbrev pub ReplaysIn : SystemParts → (lines : List ℕ) → Format → (old new : Option (List ℕ)) → Bool
    → Result Findings ReplayFault → Type 0
ReplaysIn s lines f old new failed (Ok found) =
    (found ≡ schedule_findings s (taken_of s lines)) × IsReplayIn s lines f None old new failed
ReplaysIn s lines f old new failed (Err (Check (check.Front e))) = ⊥
ReplaysIn s lines f old new failed (Err (Check (check.Check e))) = ⊥
ReplaysIn s lines f old new failed (Err (Check (check.Schedule e))) =
    (e ≡ schedule.Memory → ⊥) × IsReplayIn s lines f (Some e) old new failed
ReplaysIn s lines f old new failed (Err (Check check.Memory)) =
    Keeps old new ⊎ IsReplayPart f s (taken_of s lines) (verdicts_of s (taken_of s lines)) old new failed report.Memory
ReplaysIn s lines f old new failed (Err (Check check.Write)) =
    IsReplayPart f s (taken_of s lines) (verdicts_of s (taken_of s lines)) old new failed report.Write
ReplaysIn s lines f old new failed (Err (NoStep e why)) =
    (e ≡ schedule.Memory → ⊥) × (replayed : IsReplayIn s lines f (Some e) old new failed)
    × IsReasonBehind s (taken_of s lines) replayed.refused why
ReplaysIn s lines f old new failed (Err Differs) = ⊤

-- the same in a system that a text describes
pub record IsReplayOf (text lines : List ℕ) (f : Format) (old new : Option (List ℕ)) (failed : Bool)
    (result : Result Findings ReplayFault) : Type 0 where
  pub parts : SystemParts
  pub described : IsDescribed text parts
  pub replays : ReplaysIn parts lines f old new failed result

-- the schedule that is given beside a text was shown, and what its verdicts come to is returned; before a fault of the
-- text nothing was written, nor if memory ran out before the steps were taken, or for the verdicts. Before a refusal of
-- the lines what is before it was shown
abbrev pub ShowsReplay : (text lines : List ℕ) → Format → (old new : Option (List ℕ)) → Bool
    → Result Findings ReplayFault → Type 0
ShowsReplay text lines f old new failed (Ok found) = IsReplayOf text lines f old new failed (Ok found)
ShowsReplay text lines f old new failed (Err (Check (check.Front e))) = (failed ≡ false) × Keeps old new
ShowsReplay text lines f old new failed (Err (Check (check.Check e))) = (failed ≡ false) × Keeps old new
ShowsReplay text lines f old new failed (Err (Check (check.Schedule e))) =
    IsReplayOf text lines f old new failed (Err (Check (check.Schedule e)))
ShowsReplay text lines f old new failed (Err (Check check.Memory)) =
    Keeps old new ⊎ IsReplayOf text lines f old new failed (Err (Check check.Memory))
ShowsReplay text lines f old new failed (Err (Check check.Write)) =
    IsReplayOf text lines f old new failed (Err (Check check.Write))
ShowsReplay text lines f old new failed (Err (NoStep e why)) =
    IsReplayOf text lines f old new failed (Err (NoStep e why))
ShowsReplay text lines f old new failed (Err Differs) = ⊤

-- what a fault says of the text and the lines
abbrev pub IsFaultOfReplay : ReplayFault → (text lines : List ℕ) → Type 0
IsFaultOfReplay (Check f) text lines = IsFaultOfCheck f text lines
IsFaultOfReplay (NoStep e why) text lines = IsFaultOfCheck (check.Schedule e) text lines
IsFaultOfReplay Differs text lines = ⊤

-- no fault of the text that is always found is passed over
abbrev pub IsExactForReplay : {T : Type 0} → Result T ReplayFault → List ℕ → Type 0
IsExactForReplay result text =
    IsExactBy (λ f. Check (check.Front f)) (λ f. Check (check.Check f)) (Check check.Memory) result text

-- a fault as text: its number and its name, then its place if it has one, and the reason if it has that with it
abbrev pub replay_fault_text : ReplayFault → List ℕ
replay_fault_text (Check f) = check_schedule_fault_text f
replay_fault_text (NoStep e why) = schedule_fault_text e ++ (codes ": " ++ why)
replay_fault_text Differs = codes "51 Differs"
