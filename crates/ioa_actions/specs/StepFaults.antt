-- Faults of steps (profile): those of terms among them, and their texts.
use Rattle.std.specs.Prelude.{ℕ, List, codes}
use Rattle.ioa_operators.specs.declared.fault.TermFault.{TermFault}
use Rattle.ioa_operators.specs.declared.fault.TermFault.TheVariants as term
use Rattle.ioa_actions.specs.declared.fault.StepFault.{StepFault}
use Rattle.ioa_actions.specs.declared.fault.StepFault.TheVariants as step

-- a term's fault, as a step's
abbrev pub step_fault : TermFault → StepFault
step_fault term.Undefined = step.Undefined
step_fault term.Range = step.Range
step_fault term.Memory = step.Memory

-- a fault as text: its number and its name
abbrev pub step_fault_text : StepFault → List ℕ
step_fault_text step.Undefined = codes "1 Undefined"
step_fault_text step.Range = codes "2 Range"
step_fault_text step.Memory = codes "3 Memory"
step_fault_text step.NotEnabled = codes "40 NotEnabled"
step_fault_text step.NotMine = codes "41 NotMine"
step_fault_text step.NoChannel = codes "42 NoChannel"
step_fault_text step.NoChoice = codes "43 NoChoice"
