use Rattle.std.proofs.Common.{◌≡◌, ◌<◌, length, get_or}
use Rattle.std.proofs.lemmas.List.{get_or_read}
use Rattle.ioa_commits.specs.Commits.{IsCommitted, IsRefused}
use Rattle.ioa_core.specs.Hands.{IsPastProposal}
use Rattle.ioa_core.proofs.Told.{committed_told, counted, refusal_own, refusal_told, seen, tied_committed}
use Rattle.ioa_core.proofs.machine.Core.commit_proposal.Goals as goal

pub invariant_of-self : goal.invariant_of-self
invariant_of-self g c =
    let book = c.self.inside.book in
    let hands = c.self.inside.hands.items in
    let counts = c.self.inside.counts.items in
    let l : c.args.hand < length hands = seen book hands counts c.args.hand (rw (← c.self.view_is) at c.requires.within) in
    let old : IsPastProposal book c.args.proposal = rw (← c.self.view_is) at c.requires.made in
    let index = c.in-Ok.committed.index in
    let entry = c.in-Ok.committed.entry in
    let new = c.commit-outcome.new.self in
    let made : IsCommitted book c.args.proposal index entry new = rw c.in-Ok.is at c.commit-outcome.ensures.committed in
    let within : c.args.hand < length counts = counted book hands counts c.self.invariant c.args.hand l in
    let read : c.index_mut.result.now ≡ get_or counts c.args.hand 0 =
    get_or_read counts c.args.hand c.index_mut.result.now within c.index_mut.ensures.value 0 in
    rw read (tied_committed book hands counts c.self.invariant c.args.hand c.args.proposal old index entry new l made)

pub reply_to_refusal-requires : goal.reply_to_refusal-requires
reply_to_refusal-requires g c =
    let book = c.self.inside.book in
    let hands = c.self.inside.hands.items in
    let counts = c.self.inside.counts.items in
    let old : IsPastProposal book c.args.proposal = rw (← c.self.view_is) at c.requires.made in
    let why = c.in-Err.refused.refusal in
    let back = c.in-Err.refused.proposal in
    let new = c.commit-outcome.new.self in
    let refused : IsRefused book c.args.proposal why back new = rw c.in-Err.is at c.commit-outcome.ensures.refused in
    refusal_own book hands counts c.self.invariant c.args.hand c.args.proposal old why back new refused

pub returns-in-Ok-clause-answer : goal.returns-in-Ok-clause-answer
returns-in-Ok-clause-answer g c =
    let book = c.self.inside.book in
    let hands = c.self.inside.hands.items in
    let counts = c.self.inside.counts.items in
    let l : c.args.hand < length hands = seen book hands counts c.args.hand (rw (← c.self.view_is) at c.requires.within) in
    let old : IsPastProposal book c.args.proposal = rw (← c.self.view_is) at c.requires.made in
    let index = c.in-Ok.committed.index in
    let entry = c.in-Ok.committed.entry in
    let new = c.commit-outcome.new.self in
    let made : IsCommitted book c.args.proposal index entry new = rw c.in-Ok.is at c.commit-outcome.ensures.committed in
    let within : c.args.hand < length counts = counted book hands counts c.self.invariant c.args.hand l in
    let read : c.index_mut.result.now ≡ get_or counts c.args.hand 0 =
    get_or_read counts c.args.hand c.index_mut.result.now within c.index_mut.ensures.value 0 in
    rw (← c.self.view_is, read) (committed_told book hands counts c.self.invariant c.args.hand c.args.proposal old index entry new made)

pub returns-in-Err-clause-answer : goal.returns-in-Err-clause-answer
returns-in-Err-clause-answer g c =
    let book = c.self.inside.book in
    let hands = c.self.inside.hands.items in
    let counts = c.self.inside.counts.items in
    let old : IsPastProposal book c.args.proposal = rw (← c.self.view_is) at c.requires.made in
    let why = c.in-Err.refused.refusal in
    let back = c.in-Err.refused.proposal in
    let new = c.commit-outcome.new.self in
    let refused : IsRefused book c.args.proposal why back new = rw c.in-Err.is at c.commit-outcome.ensures.refused in
    let reply = c.reply_to_refusal.result in
    rw (← c.self.view_is, refused.unchanged)
    (refusal_told book hands counts c.self.invariant c.args.hand c.args.proposal old why back new reply refused c.reply_to_refusal.ensures.reply)
