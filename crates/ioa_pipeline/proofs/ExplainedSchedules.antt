-- What is told of a schedule beside a text.
use Rattle.std.proofs.Common.{◌≡◌, ℕ, Bool, false, List, Option, Some, None, Ok, Err, refl}
use Rattle.std.proofs.KnownBytes.{Keeps-refl}
use Rattle.ioa_system.specs.Systems.{SystemParts}
use Rattle.ioa_explain_schedule.specs.Explanations.{Explains, IsFindingOn, answer_of}
use Rattle.ioa_explain_schedule.specs.declared.explaining.LineFinding.{LineFinding}
use Rattle.ioa_explain_schedule.specs.declared.fault.ExplainLinesFault.{ExplainLinesFault}
use Rattle.ioa_explain_schedule.specs.declared.fault.ExplainLinesFault.TheVariants as fault
use Rattle.ioa_pipeline.specs.Described.{IsDescribed}
use Rattle.ioa_pipeline.specs.Explaining.{ExplainsSchedule}
use Rattle.ioa_pipeline.specs.ScheduleChecks.{IsFaultBefore}
use Rattle.ioa_pipeline.specs.declared.schedule_check.CheckScheduleFault.{CheckScheduleFault}
use Rattle.ioa_pipeline.specs.declared.schedule_check.CheckScheduleFault.TheVariants as check

-- its lines were explained
pub lines_told : (text name input : List ℕ) (s : SystemParts) (old new : Option (List ℕ)) (failed : Bool) (f : LineFinding)
    → IsDescribed text s → Explains name input (answer_of s input) old new failed (Ok f)
    → IsFindingOn f (answer_of s input) → ExplainsSchedule text name input old new failed (Ok (Some f))
lines_told text name input s old new failed f described told found =
    record { parts = s; described = described; told = told; found = found }

-- they were not told whole
pub lines_untold : (text name input : List ℕ) (s : SystemParts) (old new : Option (List ℕ)) (failed : Bool)
    (e : ExplainLinesFault) → IsDescribed text s → Explains name input (answer_of s input) old new failed (Err e)
    → ExplainsSchedule text name input old new failed (Err e)
lines_untold text name input s old new failed fault.Write described told =
    record { parts = s; described = described; told = told; found = tt }
lines_untold text name input s old new failed fault.Memory described told = told

-- the text has no system, or memory ran out before it had one
pub unread_told : (text name input : List ℕ) (old : Option (List ℕ)) (failed : Bool) (e : CheckScheduleFault)
    → failed ≡ false → IsFaultBefore e text → (e ≡ check.Memory → ⊥)
    → ExplainsSchedule text name input old old failed (Ok None)
unread_told text name input old failed (check.Front e) well h other =
    (well, Keeps-refl old, record { fault = check.Front e; refused = h })
unread_told text name input old failed (check.Check e) well h other =
    (well, Keeps-refl old, record { fault = check.Check e; refused = h })
unread_told text name input old failed (check.Schedule e) well h other = absurd h
unread_told text name input old failed check.Memory well h other = absurd (other refl)
unread_told text name input old failed check.Write well h other = absurd h

pub unmade_told : (text name input : List ℕ) (old : Option (List ℕ)) (failed : Bool) → failed ≡ false
    → ExplainsSchedule text name input old old failed (Err fault.Memory)
unmade_told text name input old failed well = (well, Keeps-refl old)

pub ruleset told_rules = (lines_told, lines_untold, unread_told, unmade_told)
