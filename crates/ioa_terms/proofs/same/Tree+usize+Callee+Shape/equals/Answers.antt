use Rattle.std.proofs.lemmas.Bool.Decides.{Decides-eqb}
use Rattle.ioa_operators.specs.ShapeEquality.{same_shape_is}
use Rattle.ioa_terms.specs.SameNames.{same_callee_is}
use Rattle.ioa_terms.proofs.SameTerms.{same_term_is}
use Rattle.ioa_terms.proofs.same.Tree+usize+Callee+Shape.equals.Goals as goal

pub returns : goal.returns
returns c = record { equality = rw c.is_same_term.ensures (same_term_is Decides-eqb same_callee_is same_shape_is _ _) }
