use Rattle.ioa_solo.proofs.ToldFires.{missed_same}
use Rattle.ioa_solo.proofs.firing.attempt.Goals as goal

pub returns-in-Err-clause-missed : goal.returns-in-Err-clause-missed
returns-in-Err-clause-missed g c = λ t. missed_same _ _ _ _ _ _ _ (c.in-Err.ensures.missed t)
