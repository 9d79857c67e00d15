use Rattle.ioa_compose.proofs.Projections.{replays, replays-from}
use Rattle.ioa_compose.proofs.laws.execution_law.Goals as goal

pub returns : goal.returns
returns c = record { execution = replays; replay = replays-from }
