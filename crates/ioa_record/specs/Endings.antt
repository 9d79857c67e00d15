-- The endings of nodes as text (profile).
use Rattle.std.specs.Prelude.{ℕ, List, ◌++◌, codes}
use Rattle.ioa_record.specs.declared.ending.NodeFault.{NodeFault}
use Rattle.ioa_record.specs.declared.ending.NodeFault.TheVariants.{Undefined, Range, Memory, NotMine, NoChannel, NoChoice}
use Rattle.ioa_record.specs.declared.ending.NodeFault.TheVariants.{Differs, Full, Unknown, Older, NoThread}
use Rattle.ioa_record.specs.declared.ending.Ending.{Ending}
use Rattle.ioa_record.specs.declared.ending.Ending.TheVariants as ending

-- the name of a fault
abbrev pub fault_name : NodeFault → List ℕ
fault_name Undefined = codes "Undefined"
fault_name Range = codes "Range"
fault_name Memory = codes "Memory"
fault_name NotMine = codes "NotMine"
fault_name NoChannel = codes "NoChannel"
fault_name NoChoice = codes "NoChoice"
fault_name Differs = codes "Differs"
fault_name Full = codes "Full"
fault_name Unknown = codes "Unknown"
fault_name Older = codes "Older"
fault_name NoThread = codes "NoThread"

-- an ending
abbrev pub ending_text : Ending → List ℕ
ending_text ending.Done = codes "done"
ending_text ending.Spent = codes "spent"
ending_text (ending.Fault f) = codes "fault " ++ fault_name f
