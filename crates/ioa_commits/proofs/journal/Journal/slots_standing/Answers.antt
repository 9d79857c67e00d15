use Rattle.std.proofs.Common.{◌%◌, ap, length, sym, ◌∙◌}
use Rattle.ioa_commits.proofs.QuickCommits.{room_behind, standing}
use Rattle.ioa_commits.proofs.journal.Journal.slots_standing.Goals as goal

pub returns-then-not-needs_spare : goal.returns-then-not-needs_spare
returns-then-not-needs_spare g c =
    standing _ _ _ c.args.self.now c.args.proposal.now.reads _ c.node-node.ensures.node c.node-node.ensures.reads (c.is_distinct.ensures c.if-is_distinct.true) (sym c.has_room.ensures ∙ c.if-has_room.true) (room_behind c.needs_spare.result c.args.self.now.log (λ z. c.needs_spare.ensures.1 (ap (λ l. length l % 64) c.log.ensures.value ∙ z)) c.if-not-needs_spare.true) c.slots_held.ensures
