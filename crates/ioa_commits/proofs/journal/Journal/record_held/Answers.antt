use Rattle.ioa_commits.specs.Books.{plain_book}
use Rattle.ioa_commits.specs.Commits.{StandsQuickly}
use Rattle.ioa_commits.specs.Proposals.{participants_next, participants_read}
use Rattle.ioa_commits.proofs.Commits.{committed, kept_commit}
use Rattle.ioa_commits.proofs.QuickCommits.{advanced_kept}
use Rattle.ioa_commits.proofs.journal.Journal.record_held.Goals as goal

pub invariant_of-self : goal.invariant_of-self
invariant_of-self g c =
    let stands : StandsQuickly (plain_book c.self.inside.start.items c.self.inside.log c.self.inside.limit) (participants_read c.proposal.inside.queue c.proposal.inside.node) c.args.slots.queue c.args.slots.node = rw (← c.self.view_is, ← c.proposal.view_is) at c.requires in
    rw (
      c.advance_all-queue.ensures.advanced,
      advanced_kept _ _ _ _ _ c.self.invariant.0 c.proposal.inside.entry c.proposal.inside.again c.proposal.inside.queue c.proposal.inside.node c.proposal.invariant c.args.slots.queue c.args.slots.node stands,
      c.append_within.ensures,
    )
    (kept_commit _ _ _ _ _ c.self.invariant.0 c.proposal.inside.entry c.proposal.inside.again (participants_read c.proposal.inside.queue c.proposal.inside.node) (participants_next c.proposal.inside.queue c.proposal.inside.node) c.proposal.invariant stands.accepted, c.self.invariant.1)

pub returns-clause-committed : goal.returns-clause-committed
returns-clause-committed g c =
    let stands : StandsQuickly (plain_book c.self.inside.start.items c.self.inside.log c.self.inside.limit) (participants_read c.proposal.inside.queue c.proposal.inside.node) c.args.slots.queue c.args.slots.node = rw (← c.self.view_is, ← c.proposal.view_is) at c.requires in
    rw (← c.self.view_is, ← c.proposal.view_is)
    (committed _ _ _ _ _ c.self.invariant.0 c.proposal.inside.entry c.proposal.inside.again (participants_read c.proposal.inside.queue c.proposal.inside.node) (participants_next c.proposal.inside.queue c.proposal.inside.node) c.proposal.invariant stands.accepted c.proposal.inside.length c.len-index.result c.append_within.new.log c.len-index.ensures c.append_within.ensures)
