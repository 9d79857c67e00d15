use Rattle.std.proofs.Common.{◌≡◌, drop}
use Rattle.ioa_receipts.specs.Covers.{all_receipts}
use Rattle.ioa_receipts.specs.Tables.{put_all}
use Rattle.ioa_receipts.proofs.table.Table.put_workers.Given as goal

-- what the receipts that are left put into the table is what all of them did
abbrev pub invariant-loop-worker : goal.invariant-loop-worker
invariant-loop-worker l =
    put_all (all_receipts (drop l.worker-index l.workers)) l.self ≡ put_all (all_receipts l.workers) l.initial.self
