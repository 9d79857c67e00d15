use Rattle.std.proofs.Common.{◌≡◌, drop}
use Rattle.ioa_receipts.specs.Tables.{put_all}
use Rattle.ioa_receipts.proofs.table.Table.put_all.Given as goal

-- what the receipts that are left put into the table is what all of them did
abbrev pub invariant-loop-receipt : goal.invariant-loop-receipt
invariant-loop-receipt l = put_all (drop l.receipt-index l.receipts) l.self ≡ put_all l.receipts l.initial.self
