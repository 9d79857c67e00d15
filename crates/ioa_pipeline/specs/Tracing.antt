-- Runs that are shown step by step, or as pictures (profile).
use Rattle.std.specs.Prelude.{◌≡◌, ◌⊎◌, ⊤, ℕ, Bool, false, List, [], Option, Result, Ok, Err, codes}
use Rattle.std.specs.Io.KnownBytes.{Keeps, Appends}
use Rattle.ioa_streams.specs.declared.output.OutFailed.{OutFailed}
use Rattle.ioa_system.specs.Systems.{SystemParts}
use Rattle.ioa_record.specs.Options.{PlainOptions}
use Rattle.ioa_record.specs.declared.ending.Ending.{Ending}
use Rattle.ioa_record.specs.declared.record.Record.{Record}
use Rattle.ioa_monitor.specs.declared.findings.Findings.{Findings}
use Rattle.ioa_monitor.specs.Judged.{schedule_findings}
use Rattle.ioa_verdicts.specs.Verdicts.{verdicts_of}
use Rattle.ioa_verdicts.specs.declared.verdict.Verdict.{Verdict}
use Rattle.ioa_paper.specs.declared.fault.ReportFault.{ReportFault}
use Rattle.ioa_paper.specs.declared.fault.ReportFault.TheVariants as report
use Rattle.ioa_tell.specs.Told.{TellsRun}
use Rattle.ioa_tell.specs.declared.fault.TellFault.{TellFault}
use Rattle.ioa_tell.specs.declared.fault.TellFault.TheVariants as tell
use Rattle.ioa_tell_text.specs.Teller.{PlainTeller, teller_after, teller_begun, teller_ended}
use Rattle.ioa_show.specs.Diagrams.{diagram_of}
use Rattle.ioa_show.specs.Sequences.{sequence_of}
use Rattle.ioa_show.specs.Shown.{PutsText, PutsWhole}
use Rattle.ioa_show.specs.States.{states_text}
use Rattle.ioa_show.specs.Steps.{steps_text}
use Rattle.ioa_pipeline.specs.WholeRun.{IsLeftBy, IsRefusalOf, run_fault_text}
use Rattle.ioa_pipeline.specs.declared.whole_run.RunFault.TheVariants as run
use Rattle.ioa_pipeline.specs.declared.tracing.Format.{Format}
use Rattle.ioa_pipeline.specs.declared.tracing.Format.TheVariants as format
use Rattle.ioa_pipeline.specs.declared.tracing.TraceFault.{TraceFault}
use Rattle.ioa_pipeline.specs.declared.tracing.TraceFault.TheVariants.{Run, Differs}

-- who tells a system as text, with these verdicts on its invariants, before anything is told: it writes behind what
-- went out before
abbrev pub fresh_teller : SystemParts → List Verdict → Option (List ℕ) → ℕ → PlainTeller
fresh_teller s verdicts before output = record {
  paper = record { start = before; text = []; output = output };
  names = s.names;
  invariants = s.invariants;
  verdicts = verdicts;
  waiting = [];
}

-- the same once it has said which invariants are not true at the start
abbrev pub begun_teller : SystemParts → List Verdict → Option (List ℕ) → ℕ → PlainTeller
begun_teller s verdicts before output = teller_begun (fresh_teller s verdicts before output)

-- the text of a run that is told goes out whole: what is told is true of its schedule, from the start of the system on,
-- has each of its actions in order, leaves out no attempt of a node, which has so many, and ends with the endings and
-- the verdicts
pub record PutsTelling (s : SystemParts) (attempts : ℕ) (left : Record) (endings : List Ending)
    (verdicts : List Verdict) (old new : Option (List ℕ)) (failed : Bool) : Type 0 where
  pub output : ℕ
  pub told : PlainTeller
  pub tells : TellsRun (λ e a b. b ≡ teller_after e a) s attempts left.schedule endings
      (begun_teller s verdicts old output) told
  pub well : failed ≡ false
  pub whole : Appends old new (teller_ended told).paper.text

-- what it came to: the telling, and then whether all of its text went out
abbrev pub told_outcome : Result (Unit {0}) TellFault → Result (Unit {0}) OutFailed → Result (Unit {0}) TraceFault
told_outcome (Err tell.Memory) sent = Err (Run run.Memory)
told_outcome (Err tell.Differs) sent = Err Differs
told_outcome (Ok x) (Err f) = Err (Run run.Write)
told_outcome (Ok x) (Ok y) = Ok tt

-- what a picture came to
abbrev pub shown : Result (Unit {0}) ReportFault → Result (Unit {0}) TraceFault
shown (Ok x) = Ok tt
shown (Err report.Memory) = Err (Run run.Memory)
shown (Err report.Write) = Err (Run run.Write)

-- what went out whole of a run in a format: a telling of it, or the text that its schedule, its endings and these
-- verdicts determine
abbrev pub IsShown : Format → SystemParts → ℕ → Record → List Ending → List Verdict → (old new : Option (List ℕ)) → Bool
    → Type 0
IsShown format.Text s attempts left endings vs old new failed =
    PutsTelling s attempts left endings vs old new failed
IsShown format.Json s attempts left endings vs old new failed =
    PutsText (steps_text s left.schedule endings vs) old new failed (Ok tt)
IsShown format.States s attempts left endings vs old new failed =
    PutsText (states_text s left.schedule endings vs) old new failed (Ok tt)
IsShown format.Diagram s attempts left endings vs old new failed =
    PutsWhole (diagram_of s left.schedule endings vs) old new failed (Ok tt)
IsShown format.Sequence s attempts left endings vs old new failed =
    PutsWhole (sequence_of s left.schedule endings) old new failed (Ok tt)

-- what went out of a run in a format, of which putting it out had a fault; of a telling nothing is said
abbrev pub IsPartOf : Format → SystemParts → Record → List Ending → List Verdict → (old new : Option (List ℕ)) → Bool
    → ReportFault → Type 0
IsPartOf format.Text s left endings vs old new failed e = ⊤
IsPartOf format.Json s left endings vs old new failed e =
    PutsText (steps_text s left.schedule endings vs) old new failed (Err e)
IsPartOf format.States s left endings vs old new failed e =
    PutsText (states_text s left.schedule endings vs) old new failed (Err e)
IsPartOf format.Diagram s left endings vs old new failed e =
    PutsWhole (diagram_of s left.schedule endings vs) old new failed (Err e)
IsPartOf format.Sequence s left endings vs old new failed e =
    PutsWhole (sequence_of s left.schedule endings) old new failed (Err e)

-- the same by the fault of the whole, which is one that can come when something went out
abbrev pub IsBegun : Format → SystemParts → Record → List Ending → List Verdict → (old new : Option (List ℕ)) → Bool
    → TraceFault → Type 0
IsBegun f s left endings vs old new failed (Run (run.Front e)) = ⊥
IsBegun f s left endings vs old new failed (Run (run.Check e)) = ⊥
IsBegun f s left endings vs old new failed (Run (run.Finish e)) = ⊥
IsBegun f s left endings vs old new failed (Run run.Memory) =
    IsPartOf f s left endings vs old new failed report.Memory
IsBegun f s left endings vs old new failed (Run run.Write) =
    IsPartOf f s left endings vs old new failed report.Write
IsBegun f s left endings vs old new failed Differs = ⊤

-- how a run that left this is shown with these verdicts, in which each node had so many attempts
abbrev pub ShowsLeft : SystemParts → ℕ → Record → List Ending → List Verdict → Format → (old new : Option (List ℕ))
    → Bool → Result (Unit {0}) TraceFault → Type 0
ShowsLeft s attempts left endings vs f old new failed (Ok x) = IsShown f s attempts left endings vs old new failed
ShowsLeft s attempts left endings vs f old new failed (Err e) = IsBegun f s left endings vs old new failed e

-- the same with the verdicts along its schedule, and what they come to; if memory ran out for them, nothing went out
abbrev pub ShowsJudged : SystemParts → ℕ → Record → List Ending → Format → (old new : Option (List ℕ)) → Bool
    → Result Findings TraceFault → Type 0
ShowsJudged s attempts left endings f old new failed (Ok found) =
    (found ≡ schedule_findings s left.schedule)
    × IsShown f s attempts left endings (verdicts_of s left.schedule) old new failed
ShowsJudged s attempts left endings f old new failed (Err (Run (run.Front e))) = ⊥
ShowsJudged s attempts left endings f old new failed (Err (Run (run.Check e))) = ⊥
ShowsJudged s attempts left endings f old new failed (Err (Run (run.Finish e))) = ⊥
ShowsJudged s attempts left endings f old new failed (Err (Run run.Memory)) =
    Keeps old new ⊎ IsPartOf f s left endings (verdicts_of s left.schedule) old new failed report.Memory
ShowsJudged s attempts left endings f old new failed (Err (Run run.Write)) =
    IsPartOf f s left endings (verdicts_of s left.schedule) old new failed report.Write
ShowsJudged s attempts left endings f old new failed (Err Differs) = ⊤

-- a run of a system that the text describes, with these options, and how it is shown; what is found are the verdicts
-- along its schedule, which are shown, too
pub record IsRunShown (text : List ℕ) (options : PlainOptions) (f : Format) (old new : Option (List ℕ))
    (failed : Bool) (found : Findings) : Type 0 where
  pub parts : SystemParts
  pub left : Record
  pub endings : List Ending
  pub run : IsLeftBy text options parts left endings
  pub judges : found ≡ schedule_findings parts left.schedule
  pub shown : IsShown f parts options.attempts left endings (verdicts_of parts left.schedule) old new failed

-- a run of a system that the text describes, with these options, and what went out of it before a fault
pub record IsRunBegun (text : List ℕ) (options : PlainOptions) (f : Format) (old new : Option (List ℕ)) (failed : Bool)
    (e : TraceFault) : Type 0 where
  pub parts : SystemParts
  pub left : Record
  pub endings : List Ending
  pub run : IsLeftBy text options parts left endings
  pub begun : IsBegun f parts left endings (verdicts_of parts left.schedule) old new failed e

-- the run of a text was shown, and what its verdicts come to is returned; before a fault that the text or the run has
-- nothing was written, nor if memory ran out before the run was over, or for the verdicts; and else what a fault left
abbrev pub ShowsRun : List ℕ → PlainOptions → Format → (old new : Option (List ℕ)) → Bool
    → Result Findings TraceFault → Type 0
ShowsRun text options f old new failed (Ok found) = IsRunShown text options f old new failed found
ShowsRun text options f old new failed (Err (Run (run.Front e))) = (failed ≡ false) × Keeps old new
ShowsRun text options f old new failed (Err (Run (run.Check e))) = (failed ≡ false) × Keeps old new
ShowsRun text options f old new failed (Err (Run (run.Finish e))) = (failed ≡ false) × Keeps old new
ShowsRun text options f old new failed (Err (Run run.Memory)) =
    Keeps old new ⊎ IsRunBegun text options f old new failed (Run run.Memory)
ShowsRun text options f old new failed (Err (Run run.Write)) =
    IsRunBegun text options f old new failed (Run run.Write)
ShowsRun text options f old new failed (Err Differs) = ⊤

-- what a fault says of the text: that of the run, if it is one
abbrev pub IsRefusalOfTrace : TraceFault → List ℕ → Type 0
IsRefusalOfTrace (Run f) text = IsRefusalOf f text
IsRefusalOfTrace Differs text = ⊤

-- a fault as text: its number and its name, then its place if it has one
abbrev pub trace_fault_text : TraceFault → List ℕ
trace_fault_text (Run f) = run_fault_text f
trace_fault_text Differs = codes "51 Differs"
