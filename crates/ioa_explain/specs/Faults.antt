-- What a fault says as text (profile).
use Rattle.std.specs.Prelude.{ℕ, List, codes}
use Rattle.ioa_explain.specs.declared.fault.ExplainFault.{ExplainFault}
use Rattle.ioa_explain.specs.declared.fault.ExplainFault.TheVariants as fault

-- a fault as text: its number and its name
abbrev pub explain_fault_text : ExplainFault → List ℕ
explain_fault_text fault.Memory = codes "3 Memory"
explain_fault_text fault.Write = codes "71 Write"
