-- What is told to people of a schedule that is given beside a text (profile).
use Rattle.std.specs.Prelude.{◌≡◌, ℕ, Bool, false, List, Option, Some, None, Result, Ok, Err, IfOk}
use Rattle.std.specs.Io.KnownBytes.{Keeps}
use Rattle.ioa_system.specs.Systems.{SystemParts}
use Rattle.ioa_explain_schedule.specs.Explanations.{Explains, IsFindingOn, answer_of}
use Rattle.ioa_explain_schedule.specs.declared.explaining.LineFinding.{LineFinding}
use Rattle.ioa_explain_schedule.specs.declared.fault.ExplainLinesFault.{ExplainLinesFault}
use Rattle.ioa_explain_schedule.specs.declared.fault.ExplainLinesFault.TheVariants as fault
use Rattle.ioa_pipeline.specs.Described.{IsDescribed}
use Rattle.ioa_pipeline.specs.ScheduleChecks.{IsFaultBefore}
use Rattle.ioa_pipeline.specs.declared.schedule_check.CheckScheduleFault.{CheckScheduleFault}
use Rattle.ioa_pipeline.specs.declared.schedule_check.CheckScheduleFault.TheVariants as check

-- a fault says why a text has no system
abbrev pub IsTextRefusal : CheckScheduleFault → List ℕ → Type 0
IsTextRefusal (check.Front f) text = IsFaultBefore (check.Front f) text
IsTextRefusal (check.Check f) text = IsFaultBefore (check.Check f) text
IsTextRefusal (check.Schedule f) text = ⊥
IsTextRefusal check.Memory text = ⊥
IsTextRefusal check.Write text = ⊥

pub record HasNoSystem (text : List ℕ) : Type 0 where
  pub fault : CheckScheduleFault
  pub refused : IsTextRefusal fault text

-- the schedule in an input was explained, under a name, as one of a system that the text describes: nothing is wrong
-- with it exactly if the check of schedules finds an execution
pub record IsExplainedBeside (text name input : List ℕ) (old new : Option (List ℕ)) (failed : Bool)
    (result : Result LineFinding ExplainLinesFault) : Type 0 where
  pub parts : SystemParts
  pub described : IsDescribed text parts
  pub told : Explains name input (answer_of parts input) old new failed result
  pub found : IfOk result (λ f. IsFindingOn f (answer_of parts input))

-- what came of it: nothing was written if the text has no system, nor if memory ran out
abbrev pub ExplainsSchedule : (text name input : List ℕ) → (old new : Option (List ℕ)) → Bool
    → Result (Option LineFinding) ExplainLinesFault → Type 0
ExplainsSchedule text name input old new failed (Ok None) = (failed ≡ false) × Keeps old new × HasNoSystem text
ExplainsSchedule text name input old new failed (Ok (Some f)) =
    IsExplainedBeside text name input old new failed (Ok f)
ExplainsSchedule text name input old new failed (Err fault.Write) =
    IsExplainedBeside text name input old new failed (Err fault.Write)
ExplainsSchedule text name input old new failed (Err fault.Memory) = (failed ≡ false) × Keeps old new
