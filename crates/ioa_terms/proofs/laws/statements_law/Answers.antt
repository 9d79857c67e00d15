use Rattle.ioa_terms.proofs.Statements.{after_in_order, after_assignment, after_names}
use Rattle.ioa_terms.proofs.Redone.{redone_by}
use Rattle.ioa_terms.proofs.laws.statements_law.Goals as goal

pub returns : goal.returns
returns c = record { order = after_in_order; assignment = after_assignment; names = after_names; again = redone_by }
