use Rattle.std.proofs.lemmas.Bool.Decides.{Decides-eqb}
use Rattle.ioa_operators.specs.ShapeEquality.{same_shape_is}
use Rattle.ioa_terms.specs.SameNames.{same_callee_is}
use Rattle.ioa_source.proofs.SameTexts.{same_entry_is}
use Rattle.ioa_source.proofs.same.Entry+usize+Callee+Shape.equals.Goals as goal

pub returns : goal.returns
returns c = record { equality = rw c.is_same_entry.ensures (same_entry_is Decides-eqb same_callee_is same_shape_is _ _) }
