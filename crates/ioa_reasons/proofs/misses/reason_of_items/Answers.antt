use Rattle.std.proofs.Common.{refl, sym}
use Rattle.ioa_reasons.proofs.Firsts.{nothing_first}
use Rattle.ioa_reasons.proofs.misses.reason_of_items.Goals as goal

pub returns-in-None : goal.returns-in-None
returns-in-None c = record {
  queue = c.args.queue.now;
  is = refl;
  name = sym c.component.ensures;
  nothing = nothing_first c.args.queue.now.items c.in-None.ensures;
}
