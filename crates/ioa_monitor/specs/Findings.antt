-- What a run has that its reader may not want (profile).
use Rattle.std.specs.Prelude.{ℕ, Bool, true, false, List}
use Rattle.std.specs.List.{list_any}
use Rattle.ioa_record.specs.declared.ending.Ending.{Ending}
use Rattle.ioa_record.specs.declared.ending.Ending.TheVariants.{Done, Spent, Fault}
use Rattle.ioa_verdicts.specs.declared.verdict.Verdict.{Verdict}
use Rattle.ioa_verdicts.specs.declared.verdict.Verdict.TheVariants.{Holds, Fails, Undefined, Range}
use Rattle.ioa_monitor.specs.declared.findings.Findings.{Findings}

-- the ending is a fault
abbrev pub is_fault : Ending → Bool
is_fault Done = false
is_fault Spent = false
is_fault (Fault f) = true

-- no attempt was left
abbrev pub is_spent : Ending → Bool
is_spent Done = false
is_spent Spent = true
is_spent (Fault f) = false

-- the invariant is not true in some state
abbrev pub fails : Verdict → Bool
fails Holds = false
fails (Fails k) = true
fails (Undefined k) = true
fails (Range k) = true

-- whether an ending is a fault, whether one is of a node with no attempt left, and whether an invariant fails
abbrev pub findings_of : List Ending → List Verdict → Findings
findings_of endings verdicts =
    record { fault = list_any is_fault endings; spent = list_any is_spent endings; invariant = list_any fails verdicts }
