-- Why a run is not told (profile).
use Rattle.std.specs.Prelude.{ℕ, List, codes}
use Rattle.ioa_book.specs.declared.outcome.LookFault.{LookFault}
use Rattle.ioa_book.specs.declared.outcome.LookFault.TheVariants as look
use Rattle.ioa_tell.specs.declared.fault.TellFault.{TellFault}
use Rattle.ioa_tell.specs.declared.fault.TellFault.TheVariants as tell

-- why a run is not told, as text: the number and the name
abbrev pub tell_fault_text : TellFault → List ℕ
tell_fault_text tell.Memory = codes "3 Memory"
tell_fault_text tell.Differs = codes "51 Differs"

-- why a run is not told for want of a look: a node that is not there is none of the system's
abbrev pub fault_of_look : LookFault → TellFault
fault_of_look look.Memory = tell.Memory
fault_of_look look.Unknown = tell.Differs
