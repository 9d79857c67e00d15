use Rattle.std.proofs.Common.{◌≤◌, length, rules, arith}
use Rattle.std.proofs.lemmas.List.{length-map}
use Rattle.ioa_core.specs.Cores.{hand_of}
use Rattle.ioa_core.specs.Hands.{hand_view}
use Rattle.ioa_core.proofs.Told.{core, no_hand}
use Rattle.ioa_core.proofs.machine.Core.answer.Goals as goal

pub returns-else-hand-len-clause-answer : goal.returns-else-hand-len-clause-answer
returns-else-hand-len-clause-answer g c =
    let book = c.self.inside.book in
    let hands = c.self.inside.hands.items in
    let counts = c.self.inside.counts.items in
    let few : length hands ≤ hand_of c.args.event.now = search rules in
    rw (← c.self.view_is)
    (no_hand (core book hands counts) c.args.event.now (omega (arith, few, length-map hands hand_view)))
