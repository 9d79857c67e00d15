use Rattle.std.proofs.Common.{◌∙◌, sym}
use Rattle.ioa_source.proofs.Heights.{statements_highest}
use Rattle.ioa_terms.specs.View.{statement_of}
use Rattle.ioa_part_reader.proofs.built.highest_statement.Goals as goal

pub returns-clause-exact : goal.returns-clause-exact
returns-clause-exact c = c.height.ensures.exact ∙ sym (statements_highest statement_of c.args.statements.now.tree.items)
