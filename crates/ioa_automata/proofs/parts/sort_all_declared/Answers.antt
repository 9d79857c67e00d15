use Rattle.std.proofs.Common.{◌∙◌, arith}
use Rattle.ioa_source.specs.TextView.{declared_of}
use Rattle.ioa_automata.specs.Parts.{declared_at}
use Rattle.ioa_automata.proofs.Loops.{all_ok_more}
use Rattle.ioa_automata.proofs.parts.sort_all_declared.Goals as goal

pub loop-declared-preserved : goal.loop-declared-preserved
loop-declared-preserved c =
    rw c.in_ok-push.ensures.items (c.loop-declared.invariant ∙ all_ok_more (declared_at c.args.types.now) declared_of declared_of c.deref-declared-items.result.now c.loop-declared.declared-index c.declared-item.result c.loop-declared.sorted.items c.in_ok-found.found (omega arith) c.declared-item.is c.in_ok-found.ensures)
