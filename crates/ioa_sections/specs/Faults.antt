-- The faults of the check, and their text (profile).
use Rattle.std.specs.Prelude.{ℕ, List, ◌++◌, Result, Ok, Err, codes}
use Rattle.std.specs.Fmt.{decimal}
use Rattle.ioa_refusals.specs.declared.refusal.Refusal.{Refusal}
use Rattle.ioa_refusals.specs.declared.refusal.Refusal.TheVariants as refusal
use Rattle.ioa_refusals.specs.Refusals.{refusal_text}
use Rattle.ioa_sections.specs.declared.fault.CheckFault.{CheckFault}
use Rattle.ioa_sections.specs.declared.fault.CheckFault.TheVariants as fault

-- the fault of a refusal in the top declaration of an index
abbrev pub fault_at : ℕ → Refusal → CheckFault
fault_at index refusal.Memory = fault.Memory
fault_at index r = fault.Refused r index

-- a result in the top declaration of an index
abbrev pub in_declaration : {A : Type 0} → ℕ → Result A Refusal → Result A CheckFault
in_declaration index (Ok x) = Ok x
in_declaration index (Err r) = Err (fault_at index r)

-- a fault: the number and the name of its refusal, and the index of the declaration
abbrev pub check_fault_text : CheckFault → List ℕ
check_fault_text (fault.Refused r index) = refusal_text r ++ (codes " in " ++ decimal index)
check_fault_text fault.Memory = codes "3 Memory"
