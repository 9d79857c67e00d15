-- What is told of a schedule that is given in a text (profile).
use Rattle.std.specs.Prelude.{◌≡◌, ℕ, Bool, true, false, List, Option, Some, None, Result, Ok, Err}
use Rattle.std.specs.Io.KnownBytes.{Keeps, Appends}
use Rattle.ioa_streams.specs.Output.{AppendsBeginning}
use Rattle.ioa_streams.specs.ScheduleParts.{schedule_part}
use Rattle.ioa_system.specs.Systems.{SystemParts}
use Rattle.ioa_schedule_check.specs.Schedules.{schedule_answer}
use Rattle.ioa_schedule_check.specs.declared.fault.ScheduleFault.{ScheduleFault}
use Rattle.ioa_explain_schedule.specs.declared.fault.ExplainLinesFault.{ExplainLinesFault}
use Rattle.ioa_explain_schedule.specs.declared.fault.ExplainLinesFault.TheVariants as fault
use Rattle.ioa_explain_schedule.specs.declared.explaining.LineFinding.{LineFinding}
use Rattle.ioa_explain_schedule.specs.declared.explaining.LineFinding.TheVariants.{NothingWrong, Refused}
use Rattle.ioa_explain_schedule.specs.Pages.{Tells}

-- what the check answers of the schedule in a text
abbrev pub answer_of : SystemParts → List ℕ → Result (Unit {0}) ScheduleFault
answer_of s text = schedule_answer s (schedule_part text)

-- nothing is wrong if the check finds an execution, and else the lines are refused
abbrev pub IsFindingOn : LineFinding → Result (Unit {0}) ScheduleFault → Type 0
IsFindingOn NothingWrong answer = answer ≡ Ok tt
IsFindingOn Refused answer = (f : ScheduleFault) × (answer ≡ Err f)

-- whether there is a refusal
abbrev pub finding_of : Option ScheduleFault → LineFinding
finding_of None = NothingWrong
finding_of (Some f) = Refused

-- if the bytes of the output are known, they grow by a page; if writing failed, by a beginning of it, and the output
-- says that it failed
abbrev pub Puts : List ℕ → (old new : Option (List ℕ)) → Bool → Result LineFinding ExplainLinesFault → Type 0
Puts page old new failed (Ok f) = (failed ≡ false) × Appends old new page
Puts page old new failed (Err fault.Write) = (failed ≡ true) × AppendsBeginning old new page
Puts page old new failed (Err fault.Memory) = ⊥

-- if the bytes of the output are known, they grow by what is told of an answer; if writing failed, by a beginning of
-- it, and the output says that it failed; if memory ran out, nothing was written
abbrev pub Explains : List ℕ → List ℕ → Result (Unit {0}) ScheduleFault → (old new : Option (List ℕ)) → Bool
    → Result LineFinding ExplainLinesFault → Type 0
Explains name text answer old new failed (Ok f) =
    (failed ≡ false) × (page : List ℕ) × Tells name text answer page × Appends old new page
Explains name text answer old new failed (Err fault.Write) =
    (failed ≡ true) × (page : List ℕ) × Tells name text answer page × AppendsBeginning old new page
Explains name text answer old new failed (Err fault.Memory) = (failed ≡ false) × Keeps old new
