use Rattle.std.proofs.Common.{refl, sym, ◌∙◌}
use Rattle.ioa_reasons.proofs.misses.reason_of_front.Goals as goal

pub returns-else-is_taken_out : goal.returns-else-is_taken_out
returns-else-is_taken_out c = record {
  queue = c.args.queue.now;
  is = refl;
  name = sym c.component.ensures;
  in_order = c.requires.in_order;
  first = sym c.requires.first;
  other = sym c.is_taken_out.ensures ∙ c.if-is_taken_out.false;
}
