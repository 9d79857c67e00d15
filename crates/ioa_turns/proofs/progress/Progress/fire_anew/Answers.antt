use Rattle.std.proofs.Common.{rules}
use Rattle.ioa_schedules.specs.Controls.{arguments_of}
use Rattle.ioa_turns.proofs.LastFired.{fired_is}
use Rattle.ioa_turns.proofs.progress.Progress.fire_anew.Goals as goal

pub invariant_of-self : goal.invariant_of-self
invariant_of-self c = record {
  ready = c.args.self.now.ready;
  fired = fired_is c.args.self.now.program.now c.args.firing.now.rule _ c.args.firing.now.action (arguments_of c.args.self.now.control) c.requires (search rules);
}
