use Rattle.ioa_core.proofs.CommitLaws.{commit_told}
use Rattle.ioa_core.proofs.laws.commit_law.Goals as goal

pub returns : goal.returns
returns c = λ c w e n held. commit_told c e n w held
