-- The numbers of the faults with which nodes end (profile).
use Rattle.std.specs.Prelude.{◌≡◌, ℕ, List, ◌++◌, codes}
use Rattle.ioa_commits.specs.declared.outcome.CommitRefusal.{CommitRefusal}
use Rattle.ioa_commits.specs.declared.outcome.CommitRefusal.TheVariants as refusal
use Rattle.ioa_record.specs.declared.ending.NodeFault.{NodeFault}
use Rattle.ioa_record.specs.declared.ending.NodeFault.TheVariants.{Undefined, Range, Memory, NotMine, NoChannel}
use Rattle.ioa_record.specs.declared.ending.NodeFault.TheVariants.{NoChoice, Differs, Full, Unknown, Older, NoThread}
use Rattle.ioa_record.specs.Endings.{fault_name}

-- the number of a fault, as the reference of the language has it; that a thread is not started has none
abbrev pub fault_number : NodeFault → List ℕ
fault_number Undefined = codes "1 "
fault_number Range = codes "2 "
fault_number Memory = codes "3 "
fault_number NotMine = codes "41 "
fault_number NoChannel = codes "42 "
fault_number NoChoice = codes "43 "
fault_number Differs = codes "51 "
fault_number Full = codes "52 "
fault_number Unknown = codes "53 "
fault_number Older = codes "54 "
fault_number NoThread = codes ""

-- its number and the name that the report has
abbrev pub numbered_fault : NodeFault → List ℕ
numbered_fault f = fault_number f ++ fault_name f

-- a text begins with another
abbrev pub BeginsWith : List ℕ → List ℕ → Type 0
BeginsWith text front = (rest : List ℕ) × (text ≡ front ++ rest)

-- a refusal says that a participant took a step since the look
abbrev pub IsStale : CommitRefusal → Type 0
IsStale (refusal.Unknown k) = ⊥
IsStale (refusal.Stale k read held) = Unit {0}
IsStale (refusal.Differs k) = ⊥
IsStale refusal.Full = ⊥
