use Rattle.std.proofs.Common.{◌+◌, drop, ap, sym, ◌∙◌}
use Rattle.std.specs.Option.{option_and_then}
use Rattle.ioa_receipts.specs.Covers.{all_receipts}
use Rattle.ioa_receipts.specs.Tables.{put_all}
use Rattle.ioa_receipts.proofs.Joining.{put_all_worker}
use Rattle.ioa_receipts.proofs.table.Table.put_workers.Goals as goal

pub returns-then-not-put_all : goal.returns-then-not-put_all
returns-then-not-put_all c =
    let rest = put_all (all_receipts (drop (c.loop-worker.worker-index + 1) c.args.workers.now)) in
    sym c.loop-worker.invariant
    ∙ (put_all_worker c.args.workers.now c.loop-worker.worker-index c.worker-item.result c.as_slice.result.now c.loop-worker.self
    c.loop-worker-test.true c.worker-item.is c.as_slice.ensures
    ∙ ap (option_and_then rest) c.if-not-put_all.ensures)

pub loop-worker-preserved : goal.loop-worker-preserved
loop-worker-preserved c =
    let rest = put_all (all_receipts (drop (c.loop-worker.worker-index + 1) c.args.workers.now)) in
    sym (ap (option_and_then rest) c.if-not-put_all.ensures)
    ∙ (sym (put_all_worker c.args.workers.now c.loop-worker.worker-index c.worker-item.result c.as_slice.result.now c.loop-worker.self
    c.loop-worker-test.true c.worker-item.is c.as_slice.ensures)
    ∙ c.loop-worker.invariant)
