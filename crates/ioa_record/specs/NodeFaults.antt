-- Faults of terms as faults of nodes (profile).
use Rattle.ioa_operators.specs.declared.fault.TermFault.{TermFault}
use Rattle.ioa_operators.specs.declared.fault.TermFault.TheVariants as term
use Rattle.ioa_record.specs.declared.ending.NodeFault.{NodeFault}
use Rattle.ioa_record.specs.declared.ending.NodeFault.TheVariants.{Undefined, Range, Memory}

-- the fault of a node of which a term has this fault
abbrev pub fault_of_term : TermFault → NodeFault
fault_of_term term.Undefined = Undefined
fault_of_term term.Range = Range
fault_of_term term.Memory = Memory
