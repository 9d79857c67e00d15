use Rattle.ioa_operators.proofs.Decisions.{decision_value, decision_alone}
use Rattle.ioa_operators.proofs.laws.decision_law.Goals as goal

pub returns-clause-value : goal.returns-clause-value
returns-clause-value c = decision_value

pub returns-clause-alone : goal.returns-clause-alone
returns-clause-alone c = decision_alone
