use Rattle.ioa_workers.proofs.Own.{own}
use Rattle.ioa_workers.proofs.gathering.finish.Goals as goal

pub returns-in-Err-clause-own : goal.returns-in-Err-clause-own
returns-in-Err-clause-own g c = own _ _ _ _ _ _ _ _ c.in-Err.ensures.unfinished c.requires.opened.0 c.requires.opened.1
