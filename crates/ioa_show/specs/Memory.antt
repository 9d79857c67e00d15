-- Whether memory ran out in a run (profile).
use Rattle.std.specs.Prelude.{Bool, true, false, List}
use Rattle.std.specs.List.{list_any}
use Rattle.ioa_record.specs.declared.ending.Ending.{Ending}
use Rattle.ioa_record.specs.declared.ending.Ending.TheVariants.{Done, Spent, Fault}
use Rattle.ioa_record.specs.declared.ending.NodeFault.{NodeFault}
use Rattle.ioa_record.specs.declared.ending.NodeFault.TheVariants as fault

-- whether a fault is want of memory
abbrev pub is_memory_fault : NodeFault → Bool
is_memory_fault fault.Memory = true
is_memory_fault fault.Undefined = false
is_memory_fault fault.Range = false
is_memory_fault fault.NotMine = false
is_memory_fault fault.NoChannel = false
is_memory_fault fault.NoChoice = false
is_memory_fault fault.Differs = false
is_memory_fault fault.Full = false
is_memory_fault fault.Unknown = false
is_memory_fault fault.Older = false
is_memory_fault fault.NoThread = false

-- whether a node ended since memory ran out
abbrev pub is_memory : Ending → Bool
is_memory Done = false
is_memory Spent = false
is_memory (Fault f) = is_memory_fault f

-- whether memory ran out in a run that left these endings
abbrev pub ran_out : List Ending → Bool
ran_out endings = list_any is_memory endings
