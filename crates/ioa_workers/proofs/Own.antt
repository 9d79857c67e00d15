-- A book is never foreign to the system and the limit with which it was opened.
use Rattle.std.proofs.Common.{◌≡◌, ◌∙◌, ℕ, List, ap, sym}
use Rattle.ioa_compose.specs.Start.{start}
use Rattle.ioa_receipts.specs.Receipts.{PlainReceipts}
use Rattle.ioa_system.specs.Systems.{SystemParts}
use Rattle.ioa_held.specs.declared.finish.FinishFault.{FinishFault}
use Rattle.ioa_held.specs.declared.finish.FinishFault.TheVariants.{Foreign, SharesMissing, Memory, Unaccounted}
use Rattle.ioa_shared.specs.SomeBook.{LeavesSome}

pub own : (opened : SystemParts) (room : ℕ) (s : SystemParts) (limit workers : ℕ) (counts : List ℕ)
    (receipts : List PlainReceipts) (why : FinishFault) → LeavesSome opened room s limit workers counts receipts why
    → s ≡ opened → limit ≡ room → why ≡ Foreign → ⊥
own opened room s limit workers counts receipts Foreign h same fits is =
    h.unfinished (record { bounded = h.of_opening.bounded ∙ sym fits; begins = h.of_opening.begins ∙ ap start (sym same) })
own opened room s limit workers counts receipts SharesMissing h same fits is = absurd (cc)
own opened room s limit workers counts receipts Memory h same fits is = absurd (cc)
own opened room s limit workers counts receipts Unaccounted h same fits is = absurd (cc)
