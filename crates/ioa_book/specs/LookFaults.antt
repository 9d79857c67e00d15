-- Why there is no look, as text (profile): its number and its name.
use Rattle.std.specs.Prelude.{ℕ, List, codes}
use Rattle.ioa_book.specs.declared.outcome.LookFault.{LookFault}
use Rattle.ioa_book.specs.declared.outcome.LookFault.TheVariants as look

-- why there is no look
abbrev pub look_fault_text : LookFault → List ℕ
look_fault_text look.Memory = codes "3 Memory"
look_fault_text look.Unknown = codes "53 Unknown"
