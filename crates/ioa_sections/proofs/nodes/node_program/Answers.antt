use Rattle.std.proofs.Common.{◌≡◌, Some, rules, sym, subst}
use Rattle.ioa_terms.specs.Bindings.{same_word}
use Rattle.ioa_source.specs.TextView.{node_of}
use Rattle.ioa_system.specs.Parts.{AutomatonParts}
use Rattle.ioa_types.specs.TextTypes.{PlainTextTypes}
use Rattle.ioa_sections.specs.Grounds.{HaveDeclaredShapes}
use Rattle.ioa_sections.specs.Nodes.{automaton_named, parameter_shapes}
use Rattle.ioa_sections.proofs.Grounds.{one_grounded, parameters_grounded}
use Rattle.ioa_sections.proofs.nodes.node_program.Goals as goal

pub program_with-requires : goal.program_with-requires
program_with-requires c =
    let names = c.args.declared.now.types.constants in
    let automata = c.args.declared.now.automata in
    let automaton = c.in-Some.automaton.now in
    let found : automaton_named (node_of c.args.node.now).automaton automata ≡ Some automaton = search rules in
    subst (λ (t : PlainTextTypes). HaveDeclaredShapes t.constants (parameter_shapes automaton)) (sym c.types.ensures)
    (parameters_grounded names automaton (one_grounded names automata c.automata.ensures.grounded (λ (a : AutomatonParts). same_word a.name (node_of c.args.node.now).automaton) automaton found))
