-- What an explanation says of a text.
use Rattle.std.proofs.Common.{◌≡◌, ℕ, Bool, List, Option, Result, Ok, Err, IfOk, subst, sym}
use Rattle.ioa_explain.specs.declared.fault.ExplainFault.{ExplainFault}
use Rattle.ioa_explain.specs.declared.fault.ExplainFault.TheVariants as fault
use Rattle.ioa_explain.specs.declared.explaining.Finding.{Finding}
use Rattle.ioa_explain.specs.declared.verdict.Verdict.{Verdict}
use Rattle.ioa_explain.specs.declared.verdict.Verdict.TheVariants.{Accepted, Unread, Refused}
use Rattle.ioa_explain.specs.Explanations.{Explains, IsExplanationOf, IsFindingOn, Puts, finding_of}
use Rattle.ioa_explain.specs.Verdicts.{IsVerdictOn, SaysWhether}

-- the finding of a verdict on a text
finding_on : (v : Verdict) (text : List ℕ) → IsVerdictOn v text → SaysWhether v text → IsFindingOn (finding_of v) text
finding_on Accepted text said whether = said
finding_on (Unread e) text said whether = whether
finding_on (Refused r index part) text said whether = whether

pub finding_said : (v : Verdict) (f : Finding) (text : List ℕ) → f ≡ finding_of v → IsVerdictOn v text
    → SaysWhether v text → IsFindingOn f text
finding_said v f text same said whether = subst (λ g. IsFindingOn g text) (sym same) (finding_on v text said whether)

-- a finding that is handed on
pub found_by : (f : Finding) (text : List ℕ) (r : Result Finding ExplainFault) → IsFindingOn f text
    → IfOk r (λ g. g ≡ f) → IfOk r (λ g. IsFindingOn g text)
found_by f text (Ok g) found same = subst (λ h. IsFindingOn h text) (sym same) found
found_by f text (Err e) found same = tt

-- an explanation that is put out
pub explained : (name text page : List ℕ) (old new : Option (List ℕ)) (failed : Bool) (r : Result Finding ExplainFault)
    → IsExplanationOf name text page → Puts page old new failed r → Explains name text old new failed r
explained name text page old new failed (Ok f) told put = (put.0, page, told, put.1)
explained name text page old new failed (Err fault.Write) told put = (put.0, page, told, put.1)
explained name text page old new failed (Err fault.Memory) told put = absurd put
