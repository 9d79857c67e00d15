use Rattle.ioa_verdicts.proofs.Meant.{is_verdict, one_verdict}
use Rattle.ioa_verdicts.proofs.laws.verdict_law.Goals as goal

pub returns : goal.returns
returns c = record { verdict = is_verdict; one = one_verdict }
