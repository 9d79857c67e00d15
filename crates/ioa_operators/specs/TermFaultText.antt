-- Faults as text (profile): their numbers and their names.
use Rattle.std.specs.Prelude.{ℕ, List, codes}
use Rattle.ioa_operators.specs.declared.fault.TermFault.{TermFault}
use Rattle.ioa_operators.specs.declared.fault.TermFault.TheVariants.{Undefined, Range, Memory}

-- a fault of evaluation
abbrev pub term_fault_text : TermFault → List ℕ
term_fault_text Undefined = codes "1 Undefined"
term_fault_text Range = codes "2 Range"
term_fault_text Memory = codes "3 Memory"
