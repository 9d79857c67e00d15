use Rattle.std.proofs.Common.{rules, ◌<◌, length, inr, refl}
use Rattle.ioa_channels.specs.Heads.{stimuli_in}
use Rattle.ioa_channels.proofs.Parts.{no_stimulus}
use Rattle.ioa_channels.proofs.queue.Queue.after_stimulus.Goals as goal

pub returns-in-empty : goal.returns-in-empty
returns-in-empty c =
    let none : length (stimuli_in c.self.inside.head) < 1 = search rules in
    inr (rw (← c.self.view_is, no_stimulus c.args.action.now (stimuli_in c.self.inside.head) c.self.inside.messages none) refl)
