use Rattle.ioa_core.proofs.CommitLaws.{told_alike}
use Rattle.ioa_core.proofs.laws.tally_law.Goals as goal

pub returns : goal.returns
returns c = told_alike
