use Rattle.std.proofs.Common.{◌≡◌, map, rules}
use Rattle.ioa_terms.specs.View.{term_of}
use Rattle.ioa_sorts.specs.Firings.{arguments_at}
use Rattle.ioa_automata.proofs.Loops.{results_are}
use Rattle.ioa_sections.proofs.Grounds.{arguments_resolved, as_many_arguments}
use Rattle.ioa_sections.proofs.Programs.{many_given}
use Rattle.ioa_sections.proofs.nodes.given_values.Goals as goal

pub argument_values-requires : goal.argument_values-requires
argument_values-requires c =
    let names = c.args.types.now.constants in
    let us = map term_of c.args.arguments.now.items in
    let ts = map term_of c.in_ok-terms.terms.items in
    let made : arguments_at names c.args.shapes.now.items us ≡ results_are ts = search rules in
    rw (c.with_constants-env.ensures.names, c.one.ensures, c.as_slice.ensures, c.deref.ensures, c.names.ensures)
    (arguments_resolved names c.types.ensures.declared.named c.args.shapes.now.items us ts c.requires made)

pub returns-clause-many : goal.returns-clause-many
returns-clause-many c =
    let names = c.args.types.now.constants in
    let us = map term_of c.args.arguments.now.items in
    let ts = map term_of c.in_ok-terms.terms.items in
    let made : arguments_at names c.args.shapes.now.items us ≡ results_are ts = search rules in
    many_given (λ vs. vs.items) c.with_constants-env.result c.args.shapes.now.items ts c.argument_values.result c.argument_values.ensures (as_many_arguments names c.args.shapes.now.items us ts made)
