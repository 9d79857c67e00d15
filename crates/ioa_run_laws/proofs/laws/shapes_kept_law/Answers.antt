use Rattle.ioa_run_laws.proofs.NodeSteps.{step_shaped}
use Rattle.ioa_run_laws.proofs.Runs.{replay_shaped, run_shaped}
use Rattle.ioa_run_laws.proofs.Starts.{start_shaped}
use Rattle.ioa_run_laws.proofs.laws.shapes_kept_law.Goals as goal

pub returns : goal.returns
returns c = record { start = start_shaped; step = step_shaped; execution = run_shaped; replay = replay_shaped }
