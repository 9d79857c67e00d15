use Rattle.ioa_terms.proofs.Assigned.{assigned_value}
use Rattle.ioa_terms.proofs.laws.put_law.Goals as goal

pub returns : goal.returns
returns c = assigned_value
