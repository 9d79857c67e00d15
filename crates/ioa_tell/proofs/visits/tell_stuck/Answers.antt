use Rattle.ioa_tell.proofs.Tellings.{tells_nothing}
use Rattle.ioa_tell.proofs.visits.tell_stuck.Goals as goal

pub returns-in_default : goal.returns-in_default
returns-in_default g c = tells_nothing g.T.Tells.hears _ _ _
