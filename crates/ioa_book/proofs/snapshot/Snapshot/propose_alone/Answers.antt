use Rattle.std.proofs.Common.{inr, sym}
use Rattle.ioa_book.proofs.FoundReads.{alone, alone_missing, found_part}
use Rattle.ioa_book.proofs.snapshot.Snapshot.propose_alone.Goals as goal

pub proposal_of_one-requires : goal.proposal_of_one-requires
proposal_of_one-requires g c = found_part c.args.fired.action c.args.node c.args.self.now.reads c.in-Some.node.now c.requires c.in-Some.ensures

pub returns-in-Some : goal.returns-in-Some
returns-in-Some g c = rw (alone c.args.fired.action c.args.self.now c.args.node c.in-Some.node.now c.requires (sym c.in-Some.ensures), ← c.length.ensures) c.proposal_of_one.ensures

pub returns-in-None : goal.returns-in-None
returns-in-None g c = inr (alone_missing c.args.fired.action c.args.self.now c.args.node c.requires (sym c.in-None.ensures))
