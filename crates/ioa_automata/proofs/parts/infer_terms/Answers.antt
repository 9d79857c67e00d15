use Rattle.std.proofs.Common.{◌∙◌, arith}
use Rattle.ioa_terms.specs.View.{term_of}
use Rattle.ioa_automata.specs.Parts.{own_term}
use Rattle.ioa_automata.proofs.Loops.{all_ok_more}
use Rattle.ioa_automata.proofs.parts.infer_terms.Goals as goal

pub loop-term-preserved : goal.loop-term-preserved
loop-term-preserved c =
    rw c.in_ok-push.ensures.items (c.loop-term.invariant ∙ all_ok_more (own_term c.args.view.now) term_of term_of c.deref-term-items.result.now c.loop-term.term-index c.term-item.result c.loop-term.sorted.items c.in_ok-found.found (omega arith) c.term-item.is c.in_ok-found.ensures)
