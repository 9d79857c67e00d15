use Rattle.std.proofs.Common.{rules, ◌≡◌, ◌<◌, ◌≤◌, length, None, Some, false, inr, refl}
use Rattle.std.specs.Prelude.{slice_get}
use Rattle.ioa_values.specs.DataOrder.{same}
use Rattle.ioa_channels.specs.Heads.{stimuli_in}
use Rattle.ioa_channels.proofs.Parts.{another_first, no_first, no_message}
use Rattle.ioa_channels.proofs.queue.Queue.first_over.Goals as goal

pub returns-in-len1-up-default : goal.returns-in-len1-up-default
returns-in-len1-up-default c =
    let some : 1 ≤ length (stimuli_in c.self.inside.head) = search rules in
    inr (rw (← c.self.view_is, no_message c.args.message.now (stimuli_in c.self.inside.head) c.self.inside.messages some) refl)

pub returns-in-empty-None : goal.returns-in-empty-None
returns-in-empty-None c =
    let none : length (stimuli_in c.self.inside.head) < 1 = search rules in
    let nothing : slice_get c.self.inside.messages 0 ≡ None = search rules in
    inr
    (rw (← c.self.view_is, no_first c.args.message.now (stimuli_in c.self.inside.head) c.self.inside.messages none nothing) refl)

pub returns-then-not-equals : goal.returns-then-not-equals
returns-then-not-equals c =
    let none : length (stimuli_in c.self.inside.head) < 1 = search rules in
    let first : slice_get c.self.inside.messages 0 ≡ Some c.in-empty-Some.first.now = search rules in
    let other : same c.in-empty-Some.first.now c.args.message.now ≡ false = search rules in
    let here =
    another_first c.args.message.now c.in-empty-Some.first.now (stimuli_in c.self.inside.head) c.self.inside.messages
    none first other in
    inr (rw (← c.self.view_is, here) refl)
