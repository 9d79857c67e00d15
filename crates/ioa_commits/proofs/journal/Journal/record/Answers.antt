use Rattle.std.proofs.Common.{◌≡◌, None, rules}
use Rattle.ioa_actions.specs.ActionParts.{node_of}
use Rattle.ioa_commits.specs.Books.{plain_book}
use Rattle.ioa_commits.specs.Commits.{refusal_of}
use Rattle.ioa_index.specs.Own.{own_slots}
use Rattle.ioa_commits.specs.Proposals.{participants_next, participants_read}
use Rattle.ioa_commits.proofs.Commits.{committed, kept_commit, raised_components}
use Rattle.ioa_commits.proofs.journal.Journal.record.Goals as goal

pub put_all-queue-requires : goal.put_all-queue-requires
put_all-queue-requires g c =
    let own : c.own.result.now ≡ own_slots (node_of c.proposal.inside.entry.action) 0 c.self.inside.index = search rules in
    rw (c.raise_at.ensures, c.action-2.ensures, own) (raised_components _ _ _ _ _ c.self.invariant.0 c.proposal.inside.entry)

pub invariant_of-self : goal.invariant_of-self
invariant_of-self g c =
    let own : c.own.result.now ≡ own_slots (node_of c.proposal.inside.entry.action) 0 c.self.inside.index = search rules in
    let accepted : refusal_of (plain_book c.self.inside.start.items c.self.inside.log c.self.inside.limit) (participants_read c.proposal.inside.queue c.proposal.inside.node) ≡ None = rw (← c.self.view_is, ← c.proposal.view_is) at c.requires in
    rw (c.put_all-queue.ensures.put, c.raise_at.ensures, c.action-2.ensures, own, c.append-left.ensures.appended)
    (kept_commit _ _ _ _ _ c.self.invariant.0 c.proposal.inside.entry c.proposal.inside.again (participants_read c.proposal.inside.queue c.proposal.inside.node) (participants_next c.proposal.inside.queue c.proposal.inside.node) c.proposal.invariant accepted, c.self.invariant.1)

pub returns-clause-committed : goal.returns-clause-committed
returns-clause-committed g c =
    let accepted : refusal_of (plain_book c.self.inside.start.items c.self.inside.log c.self.inside.limit) (participants_read c.proposal.inside.queue c.proposal.inside.node) ≡ None = rw (← c.self.view_is, ← c.proposal.view_is) at c.requires in
    rw (← c.self.view_is, ← c.proposal.view_is)
    (committed _ _ _ _ _ c.self.invariant.0 c.proposal.inside.entry c.proposal.inside.again (participants_read c.proposal.inside.queue c.proposal.inside.node) (participants_next c.proposal.inside.queue c.proposal.inside.node) c.proposal.invariant accepted c.proposal.inside.length c.len-index.result c.append-left.new.log c.len-index.ensures c.append-left.ensures.appended)
