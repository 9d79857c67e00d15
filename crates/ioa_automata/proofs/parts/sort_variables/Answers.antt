use Rattle.std.proofs.Common.{◌∙◌, arith}
use Rattle.ioa_source.specs.TextView.{variable_of}
use Rattle.ioa_automata.specs.Parts.{variable_at}
use Rattle.ioa_automata.proofs.Loops.{all_ok_more}
use Rattle.ioa_automata.proofs.parts.sort_variables.Goals as goal

pub loop-variable-preserved : goal.loop-variable-preserved
loop-variable-preserved c =
    rw c.in_ok-push.ensures.items (c.loop-variable.invariant ∙ all_ok_more (variable_at c.args.types.now c.args.view.now) variable_of variable_of c.deref-variable-items.result.now c.loop-variable.variable-index c.variable-item.result c.loop-variable.sorted.items c.in_ok-found.found (omega arith) c.variable-item.is c.in_ok-found.ensures)
