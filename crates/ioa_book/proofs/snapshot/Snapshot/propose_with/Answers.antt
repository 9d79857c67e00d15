use Rattle.std.proofs.Common.{inr, sym, arith}
use Rattle.ioa_book.proofs.FoundReads.{found_first, found_queue, queue_missing}
use Rattle.ioa_book.proofs.snapshot.Snapshot.propose_with.Goals as goal

pub propose_beside-requires : goal.propose_beside-requires
propose_beside-requires g c =
    (omega arith, (found_first c.args.fired.action c.args.queue c.args.node c.args.self.now.reads c.in-Some.queue.now c.requires c.in-Some.ensures, found_queue c.args.queue c.args.self.now.reads c.in-Some.queue.now c.in-Some.ensures))

pub returns-in-None : goal.returns-in-None
returns-in-None g c = inr (queue_missing c.args.fired.action c.args.self.now c.args.queue c.args.node c.requires (sym c.in-None.ensures))
