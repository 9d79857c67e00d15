use Rattle.ioa_run_laws.proofs.Received.{messages_awaited}
use Rattle.ioa_run_laws.proofs.Runs.{replay_shaped}
use Rattle.ioa_run_laws.proofs.laws.receive_law.Goals as goal

pub returns : goal.returns
returns c = record {
  shaped = messages_awaited;
  replay = λ x s entries cs h e. messages_awaited x s cs h (replay_shaped x s entries cs h e);
}
