-- What is told of a text (profile).
use Rattle.std.specs.Prelude.{◌≡◌, ◌++◌, ℕ, Bool, true, false, List, codes, Option, Result, Ok, Err}
use Rattle.std.specs.Io.KnownBytes.{Keeps, Appends}
use Rattle.ioa_streams.specs.Output.{AppendsBeginning}
use Rattle.ioa_explain.specs.declared.fault.ExplainFault.{ExplainFault}
use Rattle.ioa_explain.specs.declared.fault.ExplainFault.TheVariants as fault
use Rattle.ioa_explain.specs.declared.explaining.Finding.{Finding}
use Rattle.ioa_explain.specs.declared.explaining.Finding.TheVariants.{NothingWrong, Refused}
use Rattle.ioa_explain.specs.declared.verdict.Verdict.{Verdict}
use Rattle.ioa_explain.specs.declared.verdict.Verdict.TheVariants as verdict
use Rattle.ioa_refusals.specs.declared.refusal.Refusal.{Refusal}
use Rattle.ioa_walk.specs.declared.span.Span.{Span}
use Rattle.ioa_explain.specs.Pages.{TellsRefused, TellsUnread}
use Rattle.ioa_explain.specs.FurtherFaults.{TellsFurther}
use Rattle.ioa_explain.specs.Verdicts.{DescribesSystem, IsVerdictOn, SaysWhether}

-- what is told of the refusal of the check, and then of further faults
pub record TellsFaults (name text : List ℕ) (r : Refusal) (index : ℕ) (part : Option Span) (page : List ℕ)
    : Type 0 where
  pub first : List ℕ
  pub told_first : TellsRefused name text r index part first
  pub more : List ℕ
  pub told_more : TellsFurther name text more
  pub told : page ≡ first ++ more

-- what is told of a verdict
abbrev pub Tells : List ℕ → List ℕ → Verdict → List ℕ → Type 0
Tells name text verdict.Accepted page = page ≡ codes "nothing wrong\n"
Tells name text (verdict.Unread e) page = TellsUnread name text e page
Tells name text (verdict.Refused r index part) page = TellsFaults name text r index part page

-- an explanation of a text: what is told of a verdict on it, which is a refusal only if the text describes no system
pub record IsExplanationOf (name text page : List ℕ) : Type 0 where
  pub verdict : Verdict
  pub said : IsVerdictOn verdict text
  pub whether : SaysWhether verdict text
  pub told : Tells name text verdict page

-- nothing is wrong if the text describes a system, and it is refused if it describes none
abbrev pub IsFindingOn : Finding → List ℕ → Type 0
IsFindingOn NothingWrong text = DescribesSystem text
IsFindingOn Refused text = DescribesSystem text → ⊥

-- whether a verdict is a refusal
abbrev pub finding_of : Verdict → Finding
finding_of verdict.Accepted = NothingWrong
finding_of (verdict.Unread e) = Refused
finding_of (verdict.Refused r index part) = Refused

-- if the bytes of the output are known, they grow by a page; if writing failed, by a beginning of it, and the output
-- says that it failed
abbrev pub Puts : List ℕ → (old new : Option (List ℕ)) → Bool → Result Finding ExplainFault → Type 0
Puts page old new failed (Ok f) = (failed ≡ false) × Appends old new page
Puts page old new failed (Err fault.Write) = (failed ≡ true) × AppendsBeginning old new page
Puts page old new failed (Err fault.Memory) = ⊥

-- if the bytes of the output are known, they grow by an explanation; if writing failed, by a beginning of one, and the
-- output says that it failed; if memory ran out, nothing was written
abbrev pub Explains : List ℕ → List ℕ → (old new : Option (List ℕ)) → Bool → Result Finding ExplainFault → Type 0
Explains name text old new failed (Ok f) =
    (failed ≡ false) × (page : List ℕ) × IsExplanationOf name text page × Appends old new page
Explains name text old new failed (Err fault.Write) =
    (failed ≡ true) × (page : List ℕ) × IsExplanationOf name text page × AppendsBeginning old new page
Explains name text old new failed (Err fault.Memory) = (failed ≡ false) × Keeps old new
