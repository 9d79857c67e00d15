use Rattle.ioa_terms.proofs.CanonicalKept.{value_ascends, after_ascends}
use Rattle.ioa_terms.proofs.laws.ascending_law.Goals as goal

pub returns-clause-terms : goal.returns-clause-terms
returns-clause-terms c = value_ascends

pub returns-clause-statements : goal.returns-clause-statements
returns-clause-statements c = after_ascends
