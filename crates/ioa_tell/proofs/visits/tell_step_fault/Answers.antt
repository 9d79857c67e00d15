use Rattle.ioa_tell.proofs.Tellings.{tells_nothing}
use Rattle.ioa_tell.proofs.visits.tell_step_fault.Goals as goal

pub returns-in-None : goal.returns-in-None
returns-in-None g c = tells_nothing g.T.Tells.hears _ _ _
