-- The lines of a run's schedule are an execution of the text, and no system of the text has a fault of them.
use Rattle.std.proofs.Common.{◌≡◌, ℕ, List, Ok, Err, subst}
use Rattle.std.specs.Prelude.{Result}
use Rattle.ioa_source.specs.Sides.{SourceText}
use Rattle.ioa_system.specs.Systems.{SystemParts}
use Rattle.ioa_text_reader.specs.Texts.{TextSpells}
use Rattle.ioa_check.specs.Systems.{IsSystemOf}
use Rattle.ioa_record.specs.Options.{PlainOptions}
use Rattle.ioa_record.specs.declared.ending.Ending.{Ending}
use Rattle.ioa_record.specs.declared.record.Record.{Record}
use Rattle.ioa_schedule_check.specs.Schedules.{IsExecutionSpelled, schedule_answer}
use Rattle.ioa_schedule_check.specs.declared.fault.ScheduleFault.{ScheduleFault}
use Rattle.ioa_report_laws.specs.Reported.{IsRunOfText}
use Rattle.ioa_pipeline.specs.ScheduleChecks.{IsExecutionOfText, IsFaultOfLines}
use Rattle.ioa_pipeline.specs.WholeRun.{IsLeftBy}

-- what is left by a run of a text is a run of the text
pub run_of_text : (text : List ℕ) (o : PlainOptions) (s : SystemParts) (r : Record) (endings : List Ending) → IsLeftBy text o s r endings → IsRunOfText text s o.steps r
run_of_text text o s r endings h = record { source = h.described.source; spelled = h.described.spelled; system = h.described.system; endings = endings; run = h.run }

-- an execution of the system is one of the text
pub execution_of_text : (text lines : List ℕ) (o : PlainOptions) (s : SystemParts) (r : Record) (endings : List Ending) → IsLeftBy text o s r endings → IsExecutionSpelled s lines → IsExecutionOfText text lines
execution_of_text text lines o s r endings h execution = record { parts = s; described = h.described; execution = execution }

-- an answer is no fault
no_answer : (f : ScheduleFault) (a : Result (Unit {0}) ScheduleFault) → a ≡ Ok tt → a ≡ Err f → ⊥
no_answer f a passed refused = absurd (cc)

-- a text has one system
abbrev pub OneSystem : Type 0
OneSystem = (p q : SourceText) (text : List ℕ) (s t : SystemParts) → TextSpells p text → TextSpells q text → IsSystemOf p s → IsSystemOf q t → s ≡ t

pub no_fault : OneSystem → (text lines : List ℕ) (o : PlainOptions) (s : SystemParts) (r : Record) (endings : List Ending) (f : ScheduleFault) → IsLeftBy text o s r endings → schedule_answer s lines ≡ Ok tt → IsFaultOfLines f text lines → ⊥
no_fault one text lines o s r endings f h accepted k =
    let same : s ≡ k.parts = one h.described.source k.described.source text s k.parts h.described.spelled k.described.spelled h.described.system k.described.system in
    no_answer f (schedule_answer k.parts lines) (subst (λ (t : SystemParts). schedule_answer t lines ≡ Ok tt) same accepted) k.fault
