use Rattle.std.proofs.Common.{[], map}
use Rattle.ioa_source.specs.TextView.{declaration_of}
use Rattle.ioa_sections.proofs.Grounds.{grounded}
use Rattle.ioa_sections.proofs.checked.CheckedDeclarations.of.Goals as goal

pub invariant_of-result : goal.invariant_of-result
invariant_of-result c =
    grounded c.in_ok-types.types c.types-declared.ensures.declared (map declaration_of c.args.declarations.now.items) 0 [] c.in_ok-automata.automata.items c.in_ok-automata.ensures
