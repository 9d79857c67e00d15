use Rattle.std.proofs.Common.{◌∙◌, sym}
use Rattle.ioa_source.proofs.Heights.{terms_highest}
use Rattle.ioa_terms.specs.View.{term_of}
use Rattle.ioa_part_reader.proofs.built.highest_term.Goals as goal

pub returns-clause-exact : goal.returns-clause-exact
returns-clause-exact c = c.height.ensures.exact ∙ sym (terms_highest term_of c.args.terms.now.tree.items)
