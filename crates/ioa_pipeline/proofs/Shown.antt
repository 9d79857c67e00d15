-- How a run is shown, once it has left its record.
use Rattle.std.proofs.Common.{◌≡◌, inl, inr, ℕ, Bool, false, List, [], Option, Result, Ok, Err, IfErr, subst}
use Rattle.std.specs.Io.KnownBytes.{Keeps}
use Rattle.std.proofs.KnownBytes.{Keeps-refl}
use Rattle.ioa_system.specs.Systems.{SystemParts}
use Rattle.ioa_record.specs.Options.{PlainOptions}
use Rattle.ioa_record.specs.declared.ending.Ending.{Ending}
use Rattle.ioa_record.specs.declared.record.Record.{Record}
use Rattle.ioa_monitor.specs.declared.findings.Findings.{Findings}
use Rattle.ioa_monitor.specs.Findings.{findings_of}
use Rattle.ioa_verdicts.specs.Verdicts.{verdicts_of}
use Rattle.ioa_verdicts.specs.declared.verdict.Verdict.{Verdict}
use Rattle.ioa_paper.specs.declared.fault.ReportFault.{ReportFault}
use Rattle.ioa_paper.specs.declared.fault.ReportFault.TheVariants as report
use Rattle.ioa_show.specs.Diagrams.{diagram_of}
use Rattle.ioa_show.specs.Sequences.{sequence_of}
use Rattle.ioa_show.specs.Shown.{PutsText, PutsWhole}
use Rattle.ioa_show.specs.States.{states_text}
use Rattle.ioa_show.specs.Steps.{steps_text}
use Rattle.ioa_pipeline.specs.WholeRun.{IsEarly, IsLeftBy}
use Rattle.ioa_pipeline.specs.declared.whole_run.RunFault.{RunFault}
use Rattle.ioa_pipeline.specs.declared.whole_run.RunFault.TheVariants as run
use Rattle.ioa_pipeline.specs.declared.tracing.Format.{Format}
use Rattle.ioa_pipeline.specs.declared.tracing.Format.TheVariants as format
use Rattle.ioa_pipeline.specs.declared.tracing.TraceFault.{TraceFault}
use Rattle.ioa_pipeline.specs.declared.tracing.TraceFault.TheVariants.{Run, Differs}
use Rattle.ioa_pipeline.specs.Tracing.{IsBegun, IsRefusalOfTrace, IsShown, ShowsJudged, ShowsLeft, ShowsRun, shown}

-- what a picture puts out is how its format is shown
pub steps_shown : (s : SystemParts) (attempts : ℕ) (left : Record) (endings : List Ending) (vs : List Verdict)
    (old new : Option (List ℕ)) (failed : Bool) (r : Result (Unit {0}) ReportFault)
    → PutsText (steps_text s left.schedule endings vs) old new failed r
    → ShowsLeft s attempts left endings vs format.Json old new failed (shown r)
steps_shown s attempts left endings vs old new failed (Ok x) h = h
steps_shown s attempts left endings vs old new failed (Err report.Memory) h = h
steps_shown s attempts left endings vs old new failed (Err report.Write) h = h

pub states_shown : (s : SystemParts) (attempts : ℕ) (left : Record) (endings : List Ending) (vs : List Verdict)
    (old new : Option (List ℕ)) (failed : Bool) (r : Result (Unit {0}) ReportFault)
    → PutsText (states_text s left.schedule endings vs) old new failed r
    → ShowsLeft s attempts left endings vs format.States old new failed (shown r)
states_shown s attempts left endings vs old new failed (Ok x) h = h
states_shown s attempts left endings vs old new failed (Err report.Memory) h = h
states_shown s attempts left endings vs old new failed (Err report.Write) h = h

pub diagram_shown : (s : SystemParts) (attempts : ℕ) (left : Record) (endings : List Ending) (vs : List Verdict)
    (old new : Option (List ℕ)) (failed : Bool) (r : Result (Unit {0}) ReportFault)
    → PutsWhole (diagram_of s left.schedule endings vs) old new failed r
    → ShowsLeft s attempts left endings vs format.Diagram old new failed (shown r)
diagram_shown s attempts left endings vs old new failed (Ok x) h = h
diagram_shown s attempts left endings vs old new failed (Err report.Memory) h = h
diagram_shown s attempts left endings vs old new failed (Err report.Write) h = h

pub sequence_shown : (s : SystemParts) (attempts : ℕ) (left : Record) (endings : List Ending) (vs : List Verdict)
    (old new : Option (List ℕ)) (failed : Bool) (r : Result (Unit {0}) ReportFault)
    → PutsWhole (sequence_of s left.schedule endings) old new failed r
    → ShowsLeft s attempts left endings vs format.Sequence old new failed (shown r)
sequence_shown s attempts left endings vs old new failed (Ok x) h = h
sequence_shown s attempts left endings vs old new failed (Err report.Memory) h = h
sequence_shown s attempts left endings vs old new failed (Err report.Write) h = h

-- a run that is shown with its verdicts
pub judged_done : (s : SystemParts) (attempts : ℕ) (left : Record) (endings : List Ending) (vs : List Verdict)
    (f : Format) (old new : Option (List ℕ)) (failed : Bool) (found : Findings) (x : Unit {0})
    → vs ≡ verdicts_of s left.schedule → found ≡ findings_of [] vs
    → ShowsLeft s attempts left endings vs f old new failed (Ok x)
    → ShowsJudged s attempts left endings f old new failed (Ok found)
judged_done s attempts left endings vs f old new failed found x are is h =
    subst (λ (ws : List Verdict). (found ≡ findings_of [] ws) × IsShown f s attempts left endings ws old new failed)
    are (is, h)

-- and one of which showing it had a fault
begun_judged : (s : SystemParts) (attempts : ℕ) (left : Record) (endings : List Ending) (f : Format)
    (old new : Option (List ℕ)) (failed : Bool) (e : TraceFault)
    → IsBegun f s left endings (verdicts_of s left.schedule) old new failed e
    → ShowsJudged s attempts left endings f old new failed (Err e)
begun_judged s attempts left endings f old new failed (Run (run.Front e)) h = absurd h
begun_judged s attempts left endings f old new failed (Run (run.Check e)) h = absurd h
begun_judged s attempts left endings f old new failed (Run (run.Finish e)) h = absurd h
begun_judged s attempts left endings f old new failed (Run run.Memory) h = inr h
begun_judged s attempts left endings f old new failed (Run run.Write) h = h
begun_judged s attempts left endings f old new failed Differs h = tt

pub judged_fault : (s : SystemParts) (attempts : ℕ) (left : Record) (endings : List Ending) (vs : List Verdict)
    (f : Format) (old new : Option (List ℕ)) (failed : Bool) (e : TraceFault) → vs ≡ verdicts_of s left.schedule
    → ShowsLeft s attempts left endings vs f old new failed (Err e)
    → ShowsJudged s attempts left endings f old new failed (Err e)
judged_fault s attempts left endings vs f old new failed e are h =
    begun_judged s attempts left endings f old new failed e
    (subst (λ (ws : List Verdict). IsBegun f s left endings ws old new failed e) are h)

-- without memory for the verdicts nothing is shown
pub unjudged_run : (s : SystemParts) (attempts : ℕ) (left : Record) (endings : List Ending) (f : Format)
    (old : Option (List ℕ)) (failed : Bool)
    → ShowsJudged s attempts left endings f old old failed (Err (Run run.Memory))
unjudged_run s attempts left endings f old failed = inl (Keeps-refl old)

-- a run that is shown is that of the text
pub run_shown : (text : List ℕ) (options : PlainOptions) (s : SystemParts) (left : Record) (endings : List Ending)
    (f : Format) (old new : Option (List ℕ)) (failed : Bool) (r : Result Findings TraceFault)
    → IsLeftBy text options s left endings
    → ShowsJudged s options.attempts left endings f old new failed r
    → ShowsRun text options f old new failed r
run_shown text options s left endings f old new failed (Ok found) is h =
    record { parts = s; left = left; endings = endings; run = is; judges = h.0; shown = h.1 }
run_shown text options s left endings f old new failed (Err (Run (run.Front e))) is h = absurd h
run_shown text options s left endings f old new failed (Err (Run (run.Check e))) is h = absurd h
run_shown text options s left endings f old new failed (Err (Run (run.Finish e))) is h = absurd h
run_shown text options s left endings f old new failed (Err (Run run.Memory)) is h = elim h [
  | inl kept ↦ inl kept
  | inr part ↦ inr (record { parts = s; left = left; endings = endings; run = is; begun = part })
]
run_shown text options s left endings f old new failed (Err (Run run.Write)) is h =
    record { parts = s; left = left; endings = endings; run = is; begun = h }
run_shown text options s left endings f old new failed (Err Differs) is h = tt

-- and its faults say nothing of the text
pub late_trace : (text : List ℕ) (s : SystemParts) (attempts : ℕ) (left : Record) (endings : List Ending) (f : Format)
    (old new : Option (List ℕ)) (failed : Bool) (r : Result Findings TraceFault)
    → ShowsJudged s attempts left endings f old new failed r
    → IfErr r (λ e. IsRefusalOfTrace e text)
late_trace text s attempts left endings f old new failed (Ok found) h = tt
late_trace text s attempts left endings f old new failed (Err (Run (run.Front e))) h = absurd h
late_trace text s attempts left endings f old new failed (Err (Run (run.Check e))) h = absurd h
late_trace text s attempts left endings f old new failed (Err (Run (run.Finish e))) h = absurd h
late_trace text s attempts left endings f old new failed (Err (Run run.Memory)) h = tt
late_trace text s attempts left endings f old new failed (Err (Run run.Write)) h = tt
late_trace text s attempts left endings f old new failed (Err Differs) h = tt

-- before a fault of the run nothing went out
pub early_shown : (text : List ℕ) (options : PlainOptions) (f : Format) (old new : Option (List ℕ))
    (failed : Bool) (e : RunFault) → IsEarly e → failed ≡ false → Keeps old new
    → ShowsRun text options f old new failed (Err (Run e))
early_shown text options f old new failed (run.Front e) early well kept = (well, kept)
early_shown text options f old new failed (run.Check e) early well kept = (well, kept)
early_shown text options f old new failed (run.Finish e) early well kept = (well, kept)
early_shown text options f old new failed run.Memory early well kept = inl kept
early_shown text options f old new failed run.Write early well kept = absurd early

pub ruleset pictures = (steps_shown, states_shown, diagram_shown, sequence_shown)

pub ruleset judged_rules = (judged_done, judged_fault, unjudged_run)

pub ruleset runs = (run_shown, late_trace, early_shown)
