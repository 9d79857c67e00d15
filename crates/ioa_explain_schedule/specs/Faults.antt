-- What a fault says as text (profile).
use Rattle.std.specs.Prelude.{ℕ, List, codes}
use Rattle.ioa_explain_schedule.specs.declared.fault.ExplainLinesFault.{ExplainLinesFault}
use Rattle.ioa_explain_schedule.specs.declared.fault.ExplainLinesFault.TheVariants as fault

-- a fault as text: its number and its name
abbrev pub explain_lines_fault_text : ExplainLinesFault → List ℕ
explain_lines_fault_text fault.Memory = codes "3 Memory"
explain_lines_fault_text fault.Write = codes "71 Write"
