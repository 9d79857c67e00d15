use Rattle.std.proofs.Common.{◌≡◌, ◌<◌, ◌∙◌, get_or, length, refl, sym}
use Rattle.std.proofs.lemmas.List.{get_or_read}
use Rattle.ioa_core.specs.Hands.{drawn_by}
use Rattle.ioa_core.specs.declared.hand.Drawn.TheVariants as drawn
use Rattle.ioa_core.specs.declared.hand.Hand.TheVariants as hand
use Rattle.ioa_core.proofs.Told.{nothing_told, proposed_told, refused_told, seen, tied_with}
use Rattle.ioa_core.proofs.machine.Core.propose.Goals as goal

pub invariant_of-self : goal.invariant_of-self
invariant_of-self g c =
    let book = c.self.inside.book in
    let hands = c.self.inside.hands.items in
    let counts = c.self.inside.counts.items in
    let l : c.args.hand < length hands = seen book hands counts c.args.hand (rw (← c.self.view_is) at c.requires) in
    let read : c.index.result.now ≡ get_or hands c.args.hand hand.Empty = get_or_read hands c.args.hand c.index.result.now l c.index.ensures hand.Empty in
    let proposal = c.in-Proposal.proposal in
    let found : drawn.Proposal proposal ≡ drawn_by c.args.action.now (get_or hands c.args.hand hand.Empty) =
    sym c.in-Proposal.is ∙ (rw read at c.in_ok-proposal.ensures.drawn) in
    let told = proposed_told book hands counts c.self.invariant c.args.hand c.args.action.now proposal (hand.Proposed proposal) l refl found in
    rw c.put_hand.ensures (tied_with book hands counts c.self.invariant c.args.hand (hand.Proposed proposal) told.1)

pub returns-in-Proposal-clause-answer : goal.returns-in-Proposal-clause-answer
returns-in-Proposal-clause-answer g c =
    let book = c.self.inside.book in
    let hands = c.self.inside.hands.items in
    let counts = c.self.inside.counts.items in
    let l : c.args.hand < length hands = seen book hands counts c.args.hand (rw (← c.self.view_is) at c.requires) in
    let read : c.index.result.now ≡ get_or hands c.args.hand hand.Empty = get_or_read hands c.args.hand c.index.result.now l c.index.ensures hand.Empty in
    let proposal = c.in-Proposal.proposal in
    let found : drawn.Proposal proposal ≡ drawn_by c.args.action.now (get_or hands c.args.hand hand.Empty) =
    sym c.in-Proposal.is ∙ (rw read at c.in_ok-proposal.ensures.drawn) in
    let told = proposed_told book hands counts c.self.invariant c.args.hand c.args.action.now proposal (hand.Proposed proposal) l refl found in
    rw (← c.self.view_is, c.put_hand.ensures) told.0

pub returns-in-Refused-clause-answer : goal.returns-in-Refused-clause-answer
returns-in-Refused-clause-answer g c =
    let book = c.self.inside.book in
    let hands = c.self.inside.hands.items in
    let counts = c.self.inside.counts.items in
    let l : c.args.hand < length hands = seen book hands counts c.args.hand (rw (← c.self.view_is) at c.requires) in
    let read : c.index.result.now ≡ get_or hands c.args.hand hand.Empty = get_or_read hands c.args.hand c.index.result.now l c.index.ensures hand.Empty in
    let found : drawn.Refused c.in-Refused.fault ≡ drawn_by c.args.action.now (get_or hands c.args.hand hand.Empty) =
    sym c.in-Refused.is ∙ (rw read at c.in_ok-proposal.ensures.drawn) in
    rw (← c.self.view_is) (refused_told book hands counts c.self.invariant c.args.hand c.args.action.now c.in-Refused.fault l found)

pub returns-in-Nothing-clause-answer : goal.returns-in-Nothing-clause-answer
returns-in-Nothing-clause-answer g c =
    let book = c.self.inside.book in
    let hands = c.self.inside.hands.items in
    let counts = c.self.inside.counts.items in
    let l : c.args.hand < length hands = seen book hands counts c.args.hand (rw (← c.self.view_is) at c.requires) in
    let read : c.index.result.now ≡ get_or hands c.args.hand hand.Empty = get_or_read hands c.args.hand c.index.result.now l c.index.ensures hand.Empty in
    let found : drawn.Nothing ≡ drawn_by c.args.action.now (get_or hands c.args.hand hand.Empty) =
    sym c.in-Nothing.is ∙ (rw read at c.in_ok-proposal.ensures.drawn) in
    rw (← c.self.view_is) (nothing_told book hands counts c.self.invariant c.args.hand c.args.action.now l found)
