use Rattle.std.proofs.Common.{◌≡◌, ◌<◌, ◌∙◌, length, get_or, sym, true, rules}
use Rattle.ioa_core.specs.Hands.{is_proposed}
use Rattle.ioa_core.specs.declared.hand.Hand.TheVariants as hand
use Rattle.ioa_core.proofs.Told.{held_told, seen_proposed, seen_there, tied_with, true_held}
use Rattle.ioa_core.proofs.machine.Core.commit_held.Goals as goal

pub invariant_of-self : goal.invariant_of-self
invariant_of-self g c =
    rw c.take_hand.ensures.left (tied_with c.self.inside.book c.self.inside.hands.items c.self.inside.counts.items c.self.invariant c.args.hand hand.Empty tt)

pub commit_proposal-requires-clause-made : goal.commit_proposal-requires-clause-made
commit_proposal-requires-clause-made g c =
    let book = c.self.inside.book in
    let hands = c.self.inside.hands.items in
    let counts = c.self.inside.counts.items in
    let l : c.args.hand < length hands = seen_there book hands counts c.args.hand (rw (← c.self.view_is) at c.requires) in
    let held : get_or hands c.args.hand hand.Empty ≡ hand.Proposed c.in-Proposed.proposal = sym c.take_hand.ensures.taken ∙ c.in-Proposed.is in
    rw held at (true_held book hands counts c.self.invariant c.args.hand l)

pub unreachable-requires : goal.unreachable-requires
unreachable-requires g c =
    let book = c.self.inside.book in
    let hands = c.self.inside.hands.items in
    let counts = c.self.inside.counts.items in
    let yes : is_proposed c.take_hand.result ≡ true =
    rw (← c.take_hand.ensures.taken) at (seen_proposed book hands counts c.args.hand (rw (← c.self.view_is) at c.requires)) in
    search rules

pub returns-clause-answer : goal.returns-clause-answer
returns-clause-answer g c =
    let book = c.self.inside.book in
    let hands = c.self.inside.hands.items in
    let counts = c.self.inside.counts.items in
    let l : c.args.hand < length hands = seen_there book hands counts c.args.hand (rw (← c.self.view_is) at c.requires) in
    let held : get_or hands c.args.hand hand.Empty ≡ hand.Proposed c.in-Proposed.proposal = sym c.take_hand.ensures.taken ∙ c.in-Proposed.is in
    rw (← c.self.view_is)
    (held_told book hands counts c.args.hand c.in-Proposed.proposal l held ∙ (rw c.take_hand.ensures.left at c.commit_proposal.ensures.answer))
