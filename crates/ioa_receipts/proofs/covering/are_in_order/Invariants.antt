use Rattle.std.proofs.Common.{◌≡◌, drop}
use Rattle.ioa_receipts.specs.Covers.{numbered}
use Rattle.ioa_receipts.proofs.covering.are_in_order.Given as goal

-- if what is left is in order, the whole is
abbrev pub invariant-loop-index : goal.invariant-loop-index
invariant-loop-index l =
    drop l.index l.found ≡ numbered l.index l.entries → l.found ≡ numbered 0 l.log
