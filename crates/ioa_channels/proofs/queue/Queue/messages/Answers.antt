use Rattle.std.proofs.Common.{rules, ◌<◌, ◌≤◌, length, sym}
use Rattle.ioa_channels.specs.Heads.{stimuli_in}
use Rattle.ioa_channels.proofs.Parts.{messages_alone, messages_behind}
use Rattle.ioa_channels.proofs.queue.Queue.messages.Goals as goal

pub returns-in-empty-clause-exact : goal.returns-in-empty-clause-exact
returns-in-empty-clause-exact c =
    let none : length (stimuli_in c.self.inside.head) < 1 = search rules in
    rw (← c.self.view_is)
    (sym (messages_alone (stimuli_in c.self.inside.head) c.self.inside.messages none))

pub returns-in-len1-up-clause-exact : goal.returns-in-len1-up-clause-exact
returns-in-len1-up-clause-exact c =
    let some : 1 ≤ length (stimuli_in c.self.inside.head) = search rules in
    rw (← c.self.view_is) (sym (messages_behind (stimuli_in c.self.inside.head) c.self.inside.messages some))
