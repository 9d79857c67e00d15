use Rattle.ioa_terms.proofs.DefinedValues.{unary_there, binary_there, function_there, display_there, field_there}
use Rattle.ioa_terms.proofs.laws.defined_law.Goals as goal

pub returns-clause-unary : goal.returns-clause-unary
returns-clause-unary c = λ op x s r. unary_there r

pub returns-clause-binary : goal.returns-clause-binary
returns-clause-binary c = λ op x y s r. binary_there r

pub returns-clause-function : goal.returns-clause-function
returns-clause-function c = λ f xs s r. function_there r

pub returns-clause-display : goal.returns-clause-display
returns-clause-display c = display_there

pub returns-clause-field : goal.returns-clause-field
returns-clause-field c = field_there
