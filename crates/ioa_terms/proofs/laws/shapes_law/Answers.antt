use Rattle.ioa_terms.proofs.Negatives.{has_but_for_signs}
use Rattle.ioa_terms.proofs.ShapesKept.{shape_in_terms_has}
use Rattle.ioa_terms.proofs.Sound.{value_has}
use Rattle.ioa_terms.proofs.laws.shapes_law.Goals as goal

pub returns-clause-kept : goal.returns-clause-kept
returns-clause-kept c = value_has

pub returns-clause-shape_in_terms : goal.returns-clause-shape_in_terms
returns-clause-shape_in_terms c = shape_in_terms_has

pub returns-clause-signs : goal.returns-clause-signs
returns-clause-signs c = has_but_for_signs
