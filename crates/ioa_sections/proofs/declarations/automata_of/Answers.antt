use Rattle.std.proofs.Common.{◌∙◌}
use Rattle.ioa_sections.proofs.DeclaredAutomata.{automaton_behind, type_behind}
use Rattle.ioa_sections.proofs.declarations.automata_of.Goals as goal
use Rattle.ioa_sections.proofs.declarations.automata_of.Goals.{in-Type, in-Automaton+in_ok-found-in-Automaton+in_ok-push-in-Automaton}

pub loop-index-preserved : goal.loop-index-preserved
loop-index-preserved c =
    let items = c.args.declarations.now.items in
    let within = rw c.deref-declaration-items.ensures.value at c.loop-index-test.true in
    let at = rw c.deref-declaration-items.ensures.value at c.declaration-item.is in
    elim c.match-declaration.branch [
      | in-Type w ↦
          rw (w.names-is, w.automata-is)
          (c.loop-index.invariant ∙ type_behind c.args.types.now c.loop-index.index c.loop-index.names items c.declaration-item.result c.loop-index.automata.items within at w.in-Type.field-0 w.in-Type.is)
      | in-Automaton+in_ok-found-in-Automaton+in_ok-push-in-Automaton w ↦
          let found = w.in_ok-found-in-Automaton in
          rw (w.names-is, found.ensures.named, w.automata-is, w.in_ok-push-in-Automaton.ensures.items)
          (c.loop-index.invariant ∙ automaton_behind c.args.types.now c.loop-index.index c.loop-index.names items c.declaration-item.result c.loop-index.automata.items within at w.in-Automaton.automaton found.found w.in-Automaton.is found.ensures.found)
    ]
