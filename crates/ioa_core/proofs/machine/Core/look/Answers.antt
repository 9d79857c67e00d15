use Rattle.std.proofs.Common.{◌≡◌, ◌<◌, length, refl, rules, Ok, Err}
use Rattle.ioa_book.specs.Looks.{look_answer}
use Rattle.ioa_book.specs.declared.outcome.LookFault.TheVariants.{Unknown}
use Rattle.ioa_core.specs.Hands.{look_result}
use Rattle.ioa_core.specs.declared.hand.Hand.TheVariants as hand
use Rattle.ioa_core.proofs.Told.{looked_told, no_node_told, seen}
use Rattle.ioa_core.proofs.machine.Core.look.Goals as goal

pub returns-in-Some-clause-answer : goal.returns-in-Some-clause-answer
returns-in-Some-clause-answer g c =
    let book = c.self.inside.book in
    let hands = c.self.inside.hands.items in
    let counts = c.self.inside.counts.items in
    let l : c.args.hand < length hands = seen book hands counts c.args.hand (rw (← c.self.view_is) at c.requires) in
    let told : look_answer book c.args.node ≡ look_result c.in_ok-look.field-0 = search rules in
    let found : look_answer book c.args.node ≡ Ok c.in-Some.look.value = rw c.in-Some.is at told in
    rw (← c.self.view_is, c.put_hand.ensures)
    (looked_told book hands counts c.self.invariant c.args.hand c.args.node c.in-Some.look.value (hand.Looked c.in-Some.look) l found refl).0

pub returns-in-None-clause-answer : goal.returns-in-None-clause-answer
returns-in-None-clause-answer g c =
    let book = c.self.inside.book in
    let hands = c.self.inside.hands.items in
    let counts = c.self.inside.counts.items in
    let l : c.args.hand < length hands = seen book hands counts c.args.hand (rw (← c.self.view_is) at c.requires) in
    let told : look_answer book c.args.node ≡ look_result c.in_ok-look.field-0 = search rules in
    let missing : look_answer book c.args.node ≡ Err Unknown = rw c.in-None.is at told in
    rw (← c.self.view_is) (no_node_told book hands counts c.self.invariant c.args.hand c.args.node l missing)
