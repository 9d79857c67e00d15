-- What a left side decides alone.
use Rattle.std.proofs.Common.{◌≡◌, Bool, true, false, Some}
use Rattle.ioa_values.specs.Data.{Data, truth}
use Rattle.ioa_operators.specs.Operators.{binary_value, left_decision}
use Rattle.ioa_operators.specs.declared.operator.BinaryOperator.{BinaryOperator}
use Rattle.ioa_operators.specs.declared.operator.BinaryOperator.TheVariants.{Equivalent, Implies, Or, And, Equal, NotEqual}

-- it is the operator's value, whatever the right side is
pub decision_value : (op : BinaryOperator) (x d : Data) (b : Bool) → left_decision op x ≡ Some d → binary_value op x (truth b) ≡ Some d
decision_value And (truth false) d b h = h
decision_value Or (truth true) d b h = h
decision_value Implies (truth false) d b h = h
decision_value op x d b h = absurd (cc)

-- it is decided if the right side makes no difference
pub decision_alone : (op : BinaryOperator) (a : Bool) (d : Data) → binary_value op (truth a) (truth true) ≡ Some d → binary_value op (truth a) (truth false) ≡ Some d → left_decision op (truth a) ≡ Some d
decision_alone And false d h k = h
decision_alone Or true d h k = h
decision_alone Implies false d h k = h
decision_alone And true d h k = absurd (cc)
decision_alone Or false d h k = absurd (cc)
decision_alone Implies true d h k = absurd (cc)
decision_alone Equivalent true d h k = absurd (cc)
decision_alone Equivalent false d h k = absurd (cc)
decision_alone Equal true d h k = absurd (cc)
decision_alone Equal false d h k = absurd (cc)
decision_alone NotEqual true d h k = absurd (cc)
decision_alone NotEqual false d h k = absurd (cc)
decision_alone op a d h k = absurd (cc)
