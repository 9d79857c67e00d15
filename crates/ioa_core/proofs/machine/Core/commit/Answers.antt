use Rattle.std.proofs.Common.{◌≡◌, ◌<◌, ◌∙◌, false, length, get_or, sym}
use Rattle.std.proofs.lemmas.List.{get_or_read}
use Rattle.ioa_core.specs.Hands.{is_proposed}
use Rattle.ioa_core.specs.declared.hand.Hand.TheVariants as hand
use Rattle.ioa_core.proofs.Told.{nothing_held, seen}
use Rattle.ioa_core.proofs.machine.Core.commit.Goals as goal

pub returns-else-is_proposed-clause-answer : goal.returns-else-is_proposed-clause-answer
returns-else-is_proposed-clause-answer g c =
    let book = c.self.inside.book in
    let hands = c.self.inside.hands.items in
    let counts = c.self.inside.counts.items in
    let l : c.args.hand < length hands = seen book hands counts c.args.hand (rw (← c.self.view_is) at c.requires) in
    let read : c.index.result.now ≡ get_or hands c.args.hand hand.Empty = get_or_read hands c.args.hand c.index.result.now l c.index.ensures hand.Empty in
    let none : is_proposed (get_or hands c.args.hand hand.Empty) ≡ false = rw (read) at (sym c.is_proposed.ensures ∙ c.if-is_proposed.false) in
    rw (← c.self.view_is) (nothing_held book hands counts c.args.hand l none)
