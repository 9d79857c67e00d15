use Rattle.ioa_core.proofs.Told.{abandoned_told, seen}
use Rattle.ioa_core.proofs.machine.Core.abandon.Goals as goal

pub returns-clause-answer : goal.returns-clause-answer
returns-clause-answer g c =
    let book = c.self.inside.book in
    let hands = c.self.inside.hands.items in
    let counts = c.self.inside.counts.items in
    rw (← c.self.view_is, c.put_hand.ensures)
    (abandoned_told book hands counts c.args.hand (seen book hands counts c.args.hand (rw (← c.self.view_is) at c.requires)))
