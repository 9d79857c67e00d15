use Rattle.std.proofs.Common.{inr, sym}
use Rattle.ioa_commits.specs.Versions.{read_component}
use Rattle.ioa_book.proofs.FoundReads.{found_second, node_missing, with_queue}
use Rattle.ioa_book.proofs.snapshot.Snapshot.propose_beside.Goals as goal

pub proposal_of_two-requires : goal.proposal_of_two-requires
proposal_of_two-requires g c = found_second c.args.fired.action (read_component c.args.queue.now) c.args.node c.args.self.now.reads c.in-Some.node.now c.requires.parts c.in-Some.ensures

pub returns-in-Some : goal.returns-in-Some
returns-in-Some g c =
    rw (with_queue c.args.fired.action c.args.self.now (read_component c.args.queue.now) c.args.node c.args.queue.now c.in-Some.node.now c.requires.parts (sym c.requires.found) (sym c.in-Some.ensures), ← c.length.ensures) c.proposal_of_two.ensures

pub returns-in-None : goal.returns-in-None
returns-in-None g c = inr (node_missing c.args.fired.action c.args.self.now (read_component c.args.queue.now) c.args.node c.args.queue.now c.requires.parts (sym c.requires.found) (sym c.in-None.ensures))
