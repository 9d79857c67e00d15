-- How a schedule that is given is shown.
use Rattle.std.proofs.Common.{◌≡◌, ◌⊎◌, ◌∙◌, inl, inr, ℕ, Bool, false, List, Option, Some, None, Result, Ok, Err}
use Rattle.std.proofs.Common.{◌≤◌, ap, length, refl, sym, subst, []}
use Rattle.std.specs.Prelude.{IfErr, IfOk, OnOk}
use Rattle.std.specs.Io.KnownBytes.{Appends}
use Rattle.std.proofs.KnownBytes.{Keeps-refl}
use Rattle.ioa_streams.specs.declared.output.OutFailed.{OutFailed}
use Rattle.ioa_system.specs.Systems.{SystemParts}
use Rattle.ioa_text_reader.specs.Texts.{length_limit}
use Rattle.ioa_transitions.specs.Entries.{PlainEntry}
use Rattle.ioa_schedule_check.specs.declared.fault.ScheduleFault.{ScheduleFault}
use Rattle.ioa_schedule_check.specs.declared.fault.ScheduleFault.TheVariants as schedule
use Rattle.ioa_schedule_check.specs.Schedules.{schedule_answer}
use Rattle.ioa_schedule_check.specs.Taken.{IsRefusedIf, IsWholeIf, answer_by, taken_of}
use Rattle.ioa_monitor.specs.declared.findings.Findings.{Findings}
use Rattle.ioa_monitor.specs.Findings.{findings_of}
use Rattle.ioa_monitor.specs.Judged.{schedule_findings}
use Rattle.ioa_verdicts.specs.Verdicts.{verdicts_of}
use Rattle.ioa_verdicts.specs.declared.verdict.Verdict.{Verdict}
use Rattle.ioa_paper.specs.Papers.{Ended}
use Rattle.ioa_paper.specs.declared.fault.ReportFault.{ReportFault}
use Rattle.ioa_paper.specs.declared.fault.ReportFault.TheVariants as report
use Rattle.ioa_compose.specs.declared.configuration.Conf.{Conf}
use Rattle.ioa_compose.specs.Executions.{replay}
use Rattle.ioa_compose.specs.Start.{start}
use Rattle.ioa_explain_schedule.specs.Reasons.{IsReasonIf}
use Rattle.ioa_tell.specs.Schedules.{HearsRefusedIf, TellsSchedule}
use Rattle.ioa_tell.specs.declared.fault.TellFault.{TellFault}
use Rattle.ioa_tell.specs.declared.fault.TellFault.TheVariants as tell
use Rattle.ioa_tell_text.specs.Teller.{PlainTeller, teller_after, teller_ended, teller_refused}
use Rattle.ioa_show.specs.Diagrams.{diagram_of}
use Rattle.ioa_show.specs.Sequences.{sequence_of}
use Rattle.ioa_show.specs.Shown.{Continues, PutsText, PutsWhole}
use Rattle.ioa_show.specs.States.{states_text}
use Rattle.ioa_show.specs.Steps.{steps_text}
use Rattle.ioa_pipeline.specs.declared.replaying.ReplayFault.{ReplayFault}
use Rattle.ioa_pipeline.specs.declared.replaying.ReplayFault.TheVariants.{Check, NoStep, Differs}
use Rattle.ioa_pipeline.specs.declared.schedule_check.CheckScheduleFault.{CheckScheduleFault}
use Rattle.ioa_pipeline.specs.declared.schedule_check.CheckScheduleFault.TheVariants as check
use Rattle.ioa_pipeline.specs.declared.tracing.Format.{Format}
use Rattle.ioa_pipeline.specs.declared.tracing.Format.TheVariants as format
use Rattle.ioa_pipeline.specs.Described.{IsDescribed}
use Rattle.ioa_pipeline.specs.ScheduleChecks.{IsExactForCheck, IsFaultBefore}
use Rattle.ioa_pipeline.specs.Replaying.{IsExactForReplay, IsFaultOfReplay, IsReplayPart, IsReplayShown, ReplaysIn}
use Rattle.ioa_pipeline.specs.Replaying.{IsReplayIn, ShowsGiven, ShowsJudged, ShowsRefused, ShowsReplay, ShowsSteps}
use Rattle.ioa_pipeline.specs.Replaying.{IsReasonBehind, IsReasonBeside, refusal_with, replay_shown, replay_told}
use Rattle.ioa_pipeline.specs.Tracing.{begun_teller}
use Rattle.ioa_pipeline.proofs.Refusals.{before_refused}
use Rattle.ioa_pipeline.proofs.Tellings.{events_kept}

-- ---- pictures

-- what a picture puts out is how its format is shown
pub steps_shown : (s : SystemParts) (entries : List PlainEntry) (refused : Option PlainEntry) (vs : List Verdict)
    (old new : Option (List ℕ)) (failed : Bool) (r : Result (Unit {0}) ReportFault)
    → PutsText (steps_text s entries [] vs) old new failed r
    → ShowsSteps s entries refused vs format.Json old new failed (replay_shown r)
steps_shown s entries refused vs old new failed (Ok x) h = h
steps_shown s entries refused vs old new failed (Err report.Memory) h = h
steps_shown s entries refused vs old new failed (Err report.Write) h = h

pub states_shown : (s : SystemParts) (entries : List PlainEntry) (refused : Option PlainEntry) (vs : List Verdict)
    (old new : Option (List ℕ)) (failed : Bool) (r : Result (Unit {0}) ReportFault)
    → PutsText (states_text s entries [] vs) old new failed r
    → ShowsSteps s entries refused vs format.States old new failed (replay_shown r)
states_shown s entries refused vs old new failed (Ok x) h = h
states_shown s entries refused vs old new failed (Err report.Memory) h = h
states_shown s entries refused vs old new failed (Err report.Write) h = h

pub diagram_shown : (s : SystemParts) (entries : List PlainEntry) (refused : Option PlainEntry) (vs : List Verdict)
    (old new : Option (List ℕ)) (failed : Bool) (r : Result (Unit {0}) ReportFault)
    → PutsWhole (diagram_of s entries [] vs) old new failed r
    → ShowsSteps s entries refused vs format.Diagram old new failed (replay_shown r)
diagram_shown s entries refused vs old new failed (Ok x) h = h
diagram_shown s entries refused vs old new failed (Err report.Memory) h = h
diagram_shown s entries refused vs old new failed (Err report.Write) h = h

pub sequence_shown : (s : SystemParts) (entries : List PlainEntry) (refused : Option PlainEntry) (vs : List Verdict)
    (old new : Option (List ℕ)) (failed : Bool) (r : Result (Unit {0}) ReportFault)
    → PutsWhole (sequence_of s entries []) old new failed r
    → ShowsSteps s entries refused vs format.Sequence old new failed (replay_shown r)
sequence_shown s entries refused vs old new failed (Ok x) h = h
sequence_shown s entries refused vs old new failed (Err report.Memory) h = h
sequence_shown s entries refused vs old new failed (Err report.Write) h = h

pub ruleset pictures = (steps_shown, states_shown, diagram_shown, sequence_shown)

-- ---- a telling

-- the line of a refused entry goes on the same paper
refused_kept : (cs : List Conf) (k : ℕ) (refused : Option PlainEntry) (a b : PlainTeller)
    → HearsRefusedIf (λ i e r x y. y ≡ teller_refused i e r x) cs k refused a b → Continues a.paper b.paper
refused_kept cs k None a b h = subst (λ (t : PlainTeller). Continues a.paper t.paper) h (refl, refl)
refused_kept cs k (Some e) a b h = subst (λ (t : PlainTeller). Continues a.paper t.paper) (sym h.heard) (refl, refl)

pub telling_kept : (s : SystemParts) (entries : List PlainEntry) (refused : Option PlainEntry) (a b : PlainTeller)
    (r : Result (Unit {0}) TellFault)
    → OnOk r (TellsSchedule (λ e x y. y ≡ teller_after e x) (λ k e r x y. y ≡ teller_refused k e r x) s entries refused
    a b)
    → OnOk r (Continues a.paper b.paper)
telling_kept s entries refused a b (Ok x) h =
    let first : Continues a.paper h.mid.paper = events_kept h.events a h.mid h.heard in
    let last : Continues h.mid.paper b.paper = refused_kept _ _ refused h.mid b h.refusal in
    (last.0 ∙ first.0, last.1 ∙ first.1)
telling_kept s entries refused a b (Err f) h = tt

-- a telling that began on a fresh paper, and whose text went out
pub telling_shown : (s : SystemParts) (entries : List PlainEntry) (refused : Option PlainEntry) (vs : List Verdict)
    (old new : Option (List ℕ)) (failed : Bool) (output : ℕ) (told whole : PlainTeller)
    (r : Result (Unit {0}) TellFault) (sent : Result (Unit {0}) OutFailed)
    → OnOk r (TellsSchedule (λ e x y. y ≡ teller_after e x) (λ k e r x y. y ≡ teller_refused k e r x) s entries refused
    (begun_teller s vs old output) told)
    → OnOk r (whole ≡ teller_ended told) → OnOk r (Ended old new failed whole.paper.text sent)
    → ShowsSteps s entries refused vs format.Text old new failed (replay_told r sent)
telling_shown s entries refused vs old new failed output told whole (Ok x) (Ok y) h is g = record {
  output = output;
  told = told;
  tells = h;
  well = g.0;
  whole = subst (λ (t : PlainTeller). Appends old new t.paper.text) is g.1;
}
telling_shown s entries refused vs old new failed output told whole (Ok x) (Err f) h is g = tt
telling_shown s entries refused vs old new failed output told whole (Err tell.Memory) sent h is g = tt
telling_shown s entries refused vs old new failed output told whole (Err tell.Differs) sent h is g = tt

-- ---- a schedule with its verdicts, or with its refusal

-- steps that were shown whole with their verdicts
pub judged_done : (s : SystemParts) (entries : List PlainEntry) (refused : Option PlainEntry) (vs : List Verdict)
    (f : Format) (old new : Option (List ℕ)) (failed : Bool) (found : Findings) (x : Unit {0})
    → vs ≡ verdicts_of s entries → found ≡ findings_of [] vs
    → ShowsSteps s entries refused vs f old new failed (Ok x)
    → ShowsJudged s entries refused f old new failed (Ok found)
judged_done s entries refused vs f old new failed found x are is h =
    subst (λ (ws : List Verdict). (found ≡ findings_of [] ws) × IsReplayShown f s entries refused ws old new failed)
    are (is, h)

-- and those of which showing them had a fault
steps_judged : (s : SystemParts) (entries : List PlainEntry) (refused : Option PlainEntry) (f : Format)
    (old new : Option (List ℕ)) (failed : Bool) (e : ReplayFault)
    → ShowsSteps s entries refused (verdicts_of s entries) f old new failed (Err e)
    → ShowsJudged s entries refused f old new failed (Err e)
steps_judged s entries refused f old new failed (Check (check.Front e)) h = absurd h
steps_judged s entries refused f old new failed (Check (check.Check e)) h = absurd h
steps_judged s entries refused f old new failed (Check (check.Schedule e)) h = absurd h
steps_judged s entries refused f old new failed (Check check.Memory) h = inr h
steps_judged s entries refused f old new failed (Check check.Write) h = h
steps_judged s entries refused f old new failed (NoStep e why) h = absurd h
steps_judged s entries refused f old new failed Differs h = tt

pub judged_fault : (s : SystemParts) (entries : List PlainEntry) (refused : Option PlainEntry) (vs : List Verdict)
    (f : Format) (old new : Option (List ℕ)) (failed : Bool) (e : ReplayFault) → vs ≡ verdicts_of s entries
    → ShowsSteps s entries refused vs f old new failed (Err e)
    → ShowsJudged s entries refused f old new failed (Err e)
judged_fault s entries refused vs f old new failed e are h =
    steps_judged s entries refused f old new failed e
    (subst (λ (ws : List Verdict). ShowsSteps s entries refused ws f old new failed (Err e)) are h)

-- without memory for the verdicts nothing is shown
pub unjudged_replay : (s : SystemParts) (entries : List PlainEntry) (refused : Option PlainEntry) (f : Format)
    (old : Option (List ℕ)) (failed : Bool)
    → ShowsJudged s entries refused f old old failed (Err (Check check.Memory))
unjudged_replay s entries refused f old failed = inl (Keeps-refl old)

pub ruleset judged_rules = (judged_done, judged_fault, unjudged_replay)

-- steps that were shown whole, before a refusal
refused_with : (s : SystemParts) (entries : List PlainEntry) (refused : Option PlainEntry) (e : ScheduleFault)
    (f : Format) (old new : Option (List ℕ)) (failed : Bool) (why : Option (List ℕ)) → (e ≡ schedule.Memory → ⊥)
    → IsReasonBeside s entries refused why
    → IsReplayShown f s entries refused (verdicts_of s entries) old new failed
    → ShowsRefused s entries refused e f old new failed (Err (refusal_with e why))
refused_with s entries refused e f old new failed None other reason h = (refl, other, h)
refused_with s entries refused e f old new failed (Some why) other reason h = (refl, other, h, reason)

pub shown_refused : (s : SystemParts) (entries : List PlainEntry) (refused : Option PlainEntry) (e : ScheduleFault)
    (f : Format) (old new : Option (List ℕ)) (failed : Bool) (found : Findings) (why : Option (List ℕ))
    (told : ReplayFault) → (e ≡ schedule.Memory → ⊥) → IsReasonBeside s entries refused why
    → told ≡ refusal_with e why → ShowsJudged s entries refused f old new failed (Ok found)
    → ShowsRefused s entries refused e f old new failed (Err told)
shown_refused s entries refused e f old new failed found why told other reason is h =
    rw is (refused_with s entries refused e f old new failed why other reason h.1)

-- and those of which showing them had a fault
pub fault_refused : (s : SystemParts) (entries : List PlainEntry) (refused : Option PlainEntry) (e : ScheduleFault)
    (f : Format) (old new : Option (List ℕ)) (failed : Bool) (g : ReplayFault)
    → ShowsJudged s entries refused f old new failed (Err g)
    → ShowsRefused s entries refused e f old new failed (Err g)
fault_refused s entries refused e f old new failed (Check (check.Front g)) h = absurd h
fault_refused s entries refused e f old new failed (Check (check.Check g)) h = absurd h
fault_refused s entries refused e f old new failed (Check (check.Schedule g)) h = absurd h
fault_refused s entries refused e f old new failed (Check check.Memory) h = h
fault_refused s entries refused e f old new failed (Check check.Write) h = h
fault_refused s entries refused e f old new failed (NoStep g why) h = absurd h
fault_refused s entries refused e f old new failed Differs h = tt

-- without memory for its reason nothing is shown
pub unmade_refused : (s : SystemParts) (entries : List PlainEntry) (refused : Option PlainEntry) (e : ScheduleFault)
    (f : Format) (old : Option (List ℕ)) (failed : Bool)
    → ShowsRefused s entries refused e f old old failed (Err (Check check.Memory))
unmade_refused s entries refused e f old failed = inl (Keeps-refl old)

pub ruleset refused_rules = (shown_refused, fault_refused, unmade_refused)

-- a reason that is told where the steps lead
reason_behind : (s : SystemParts) (entries : List PlainEntry) (refused : Option PlainEntry) (states : List Conf)
    (why : Option (List ℕ)) → replay entries (start s) ≡ Some states → IsReasonIf states s.names refused why
    → IsReasonBeside s entries refused why
reason_behind s entries refused states None reached h = tt
reason_behind s entries refused states (Some why) reached h =
    record { states = states; reached = reached; reason = h }

pub reason_beside : {E : Type 0} (s : SystemParts) (entries : List PlainEntry) (refused : Option PlainEntry)
    (states : List Conf) (r : Result (Option (List ℕ)) E) → replay entries (start s) ≡ Some states
    → IfOk r (IsReasonIf states s.names refused) → IfOk r (IsReasonBeside s entries refused)
reason_beside s entries refused states (Ok why) reached h = reason_behind s entries refused states why reached h
reason_beside s entries refused states (Err e) reached h = tt

pub ruleset reason_rules = (reason_beside)

-- without memory for the lines nothing is shown
pub kept_replay : (s : SystemParts) (entries : List PlainEntry) (refused : Option PlainEntry) (e : ScheduleFault)
    (f : Format) (old : Option (List ℕ)) (failed : Bool)
    → ShowsGiven s entries refused (Some e) f old old failed (Err (Check check.Memory))
kept_replay s entries refused e f old failed = inl (Keeps-refl old)

-- ---- the lines in a system

-- what is known of a schedule that is given, in one place
record Given (s : SystemParts) (lines : List ℕ) (refusal : Option ScheduleFault) (taken : List PlainEntry)
    (refused : Option PlainEntry) : Type 0 where
  steps : taken ≡ taken_of s lines
  answer : answer_by refusal ≡ schedule_answer s lines
  whole : IsWholeIf refusal s lines taken
  is_refused : IsRefusedIf refusal s lines taken refused

-- its steps were shown whole
whole_replay : (s : SystemParts) (lines : List ℕ) (refusal : Option ScheduleFault) (taken : List PlainEntry)
    (refused : Option PlainEntry) (f : Format) (old new : Option (List ℕ)) (failed : Bool)
    → Given s lines refusal taken refused
    → IsReplayShown f s taken refused (verdicts_of s taken) old new failed
    → IsReplayIn s lines f refusal old new failed
whole_replay s lines refusal taken refused f old new failed g h = record {
  answer = g.answer;
  whole = subst (IsWholeIf refusal s lines) g.steps g.whole;
  refused = refused;
  is_refused = subst (λ es. IsRefusedIf refusal s lines es refused) g.steps g.is_refused;
  shown = subst (λ es. IsReplayShown f s es refused (verdicts_of s es) old new failed) g.steps h;
}

part_replay : (s : SystemParts) (lines : List ℕ) (taken : List PlainEntry) (f : Format) (old new : Option (List ℕ))
    (failed : Bool) (e : ReportFault) → taken ≡ taken_of s lines
    → IsReplayPart f s taken (verdicts_of s taken) old new failed e
    → IsReplayPart f s (taken_of s lines) (verdicts_of s (taken_of s lines)) old new failed e
part_replay s lines taken f old new failed e is h =
    subst (λ es. IsReplayPart f s es (verdicts_of s es) old new failed e) is h

-- a schedule without a refusal
none_replays : (s : SystemParts) (lines : List ℕ) (taken : List PlainEntry) (refused : Option PlainEntry) (f : Format)
    (old new : Option (List ℕ)) (failed : Bool) (r : Result Findings ReplayFault)
    → Given s lines None taken refused → ShowsJudged s taken refused f old new failed r
    → ReplaysIn s lines f old new failed r
none_replays s lines taken refused f old new failed (Ok found) g h = (
  subst (λ (es : List PlainEntry). found ≡ schedule_findings s es) g.steps h.0,
  whole_replay s lines None taken refused f old new failed g h.1,
)
none_replays s lines taken refused f old new failed (Err (Check (check.Front e))) g h = absurd h
none_replays s lines taken refused f old new failed (Err (Check (check.Check e))) g h = absurd h
none_replays s lines taken refused f old new failed (Err (Check (check.Schedule e))) g h = absurd h
none_replays s lines taken refused f old new failed (Err (Check check.Memory)) g h = elim h [
  | inl kept ↦ inl kept
  | inr part ↦ inr (part_replay s lines taken f old new failed report.Memory g.steps part)
]
none_replays s lines taken refused f old new failed (Err (Check check.Write)) g h =
    part_replay s lines taken f old new failed report.Write g.steps h
none_replays s lines taken refused f old new failed (Err (NoStep e why)) g h = absurd h
none_replays s lines taken refused f old new failed (Err Differs) g h = tt

-- and one that is refused
some_replays : (s : SystemParts) (lines : List ℕ) (e : ScheduleFault) (taken : List PlainEntry)
    (refused : Option PlainEntry) (f : Format) (old new : Option (List ℕ)) (failed : Bool)
    (r : Result Findings ReplayFault) → Given s lines (Some e) taken refused
    → ShowsRefused s taken refused e f old new failed r → ReplaysIn s lines f old new failed r
unfolding whole_replay
some_replays s lines e taken refused f old new failed (Ok found) g h = absurd h
some_replays s lines e taken refused f old new failed (Err (Check (check.Front x))) g h = absurd h
some_replays s lines e taken refused f old new failed (Err (Check (check.Check x))) g h = absurd h
some_replays s lines e taken refused f old new failed (Err (Check (check.Schedule x))) g h =
    rw h.0 (h.1, whole_replay s lines (Some e) taken refused f old new failed g h.2)
some_replays s lines e taken refused f old new failed (Err (Check check.Memory)) g h = elim h [
  | inl kept ↦ inl kept
  | inr part ↦ inr (part_replay s lines taken f old new failed report.Memory g.steps part)
]
some_replays s lines e taken refused f old new failed (Err (Check check.Write)) g h =
    part_replay s lines taken f old new failed report.Write g.steps h
some_replays s lines e taken refused f old new failed (Err (NoStep x why)) g h = rw h.0 (
  h.1,
  whole_replay s lines (Some e) taken refused f old new failed g h.2,
  subst (λ es. IsReasonBehind s es refused why) g.steps h.3,
)
some_replays s lines e taken refused f old new failed (Err Differs) g h = tt

pub given_replays : (s : SystemParts) (lines : List ℕ) (refusal : Option ScheduleFault) (taken : List PlainEntry)
    (refused : Option PlainEntry) (f : Format) (old new : Option (List ℕ)) (failed : Bool)
    (r : Result Findings ReplayFault) → taken ≡ taken_of s lines → answer_by refusal ≡ schedule_answer s lines
    → IsWholeIf refusal s lines taken → IsRefusedIf refusal s lines taken refused
    → ShowsGiven s taken refused refusal f old new failed r → ReplaysIn s lines f old new failed r
given_replays s lines None taken refused f old new failed r steps answer whole is_refused h =
    none_replays s lines taken refused f old new failed r
    (record { steps = steps; answer = answer; whole = whole; is_refused = is_refused }) h
given_replays s lines (Some e) taken refused f old new failed r steps answer whole is_refused h =
    some_replays s lines e taken refused f old new failed r
    (record { steps = steps; answer = answer; whole = whole; is_refused = is_refused }) h

-- if there is no memory for them, nothing went out
pub unmade_replays : (s : SystemParts) (lines : List ℕ) (f : Format) (old : Option (List ℕ))
    (failed : Bool) → ReplaysIn s lines f old old failed (Err (Check check.Memory))
unmade_replays s lines f old failed = inl (Keeps-refl old)

pub ruleset given_rules = (given_replays, unmade_replays)

-- ---- the lines beside a text

pub replayed : (text lines : List ℕ) (s : SystemParts) (f : Format) (old new : Option (List ℕ))
    (failed : Bool) (r : Result Findings ReplayFault) → IsDescribed text s → ReplaysIn s lines f old new failed r
    → ShowsReplay text lines f old new failed r
replayed text lines s f old new failed (Ok found) d h = record { parts = s; described = d; replays = h }
replayed text lines s f old new failed (Err (Check (check.Front e))) d h = absurd h
replayed text lines s f old new failed (Err (Check (check.Check e))) d h = absurd h
replayed text lines s f old new failed (Err (Check (check.Schedule e))) d h =
    record { parts = s; described = d; replays = h }
replayed text lines s f old new failed (Err (Check check.Memory)) d h =
    inr (record { parts = s; described = d; replays = h })
replayed text lines s f old new failed (Err (Check check.Write)) d h =
    record { parts = s; described = d; replays = h }
replayed text lines s f old new failed (Err (NoStep e why)) d h =
    record { parts = s; described = d; replays = h }
replayed text lines s f old new failed (Err Differs) d h = tt

-- its faults are those of the lines
pub replay_refused : (text lines : List ℕ) (s : SystemParts) (f : Format) (old new : Option (List ℕ))
    (failed : Bool) (r : Result Findings ReplayFault) → IsDescribed text s → ReplaysIn s lines f old new failed r
    → IfErr r (λ e. IsFaultOfReplay e text lines)
replay_refused text lines s f old new failed (Ok found) d h = tt
replay_refused text lines s f old new failed (Err (Check (check.Front e))) d h = absurd h
replay_refused text lines s f old new failed (Err (Check (check.Check e))) d h = absurd h
replay_refused text lines s f old new failed (Err (Check (check.Schedule e))) d h =
    (h.0, record { parts = s; described = d; fault = sym h.1.answer })
replay_refused text lines s f old new failed (Err (Check check.Memory)) d h = tt
replay_refused text lines s f old new failed (Err (Check check.Write)) d h = tt
replay_refused text lines s f old new failed (Err (NoStep e why)) d h =
    (h.0, record { parts = s; described = d; fault = sym h.1.answer })
replay_refused text lines s f old new failed (Err Differs) d h = tt

-- nothing is shown if the text has no system
pub unread_replay : (text lines : List ℕ) (f : Format) (old : Option (List ℕ)) (failed : Bool)
    (e : CheckScheduleFault) → failed ≡ false → IsFaultBefore e text
    → ShowsReplay text lines f old old failed (Err (Check e))
unread_replay text lines f old failed (check.Front e) well h = (well, Keeps-refl old)
unread_replay text lines f old failed (check.Check e) well h = (well, Keeps-refl old)
unread_replay text lines f old failed (check.Schedule e) well h = absurd h
unread_replay text lines f old failed check.Memory well h = inl (Keeps-refl old)
unread_replay text lines f old failed check.Write well h = absurd h

pub ruleset text_rules = (before_refused, unread_replay, replayed, replay_refused)

-- ---- faults of the text that are always found

named : (e g : CheckScheduleFault) (P : Type 0) → (e ≡ g) ⊎ ((e ≡ check.Memory) × P)
    → (Check e ≡ Check g) ⊎ ((Check e ≡ Check check.Memory) × P)
named e g P (inl is) = inl (ap Check is)
named e g P (inr (is, short)) = inr (ap Check is, short)

refusal_named : (e g : CheckScheduleFault) → (e ≡ g) ⊎ (e ≡ check.Memory)
    → (Check e ≡ Check g) ⊎ (Check e ≡ Check check.Memory)
refusal_named e g (inl is) = inl (ap Check is)
refusal_named e g (inr is) = inr (ap Check is)

-- they are passed on under another name
pub replay_exact : {S T : Type 0} (text : List ℕ) (e : CheckScheduleFault) → IsExactForCheck {T = S} (Err e) text
    → IsExactForReplay {T = T} (Err (Check e)) text
replay_exact text e h = record {
  reading = λ x found stands. named e (check.Front x) (length text ≤ length_limit) (h.reading x found stands);
  checking = λ p x short spelled refused. refusal_named e (check.Check x) (h.checking p x short spelled refused);
}

-- and a text that has a system has none
pub replay_free : {S T : Type 0} (text : List ℕ) (s : S) (r : Result T ReplayFault) → IsExactForCheck (Ok s) text
    → IsExactForReplay r text
replay_free text s r h = record {
  reading = λ x found stands. absurd (h.reading x found stands);
  checking = λ p x short spelled refused. absurd (h.checking p x short spelled refused);
}

pub ruleset handed_on = (replay_exact, replay_free)
