use Rattle.ioa_compose.proofs.Starts.{is_start, start_state}
use Rattle.ioa_compose.proofs.laws.start_law.Goals as goal

pub returns : goal.returns
returns c = record { start = is_start; state = start_state }
