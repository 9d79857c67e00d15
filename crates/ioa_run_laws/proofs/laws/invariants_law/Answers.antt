use Rattle.ioa_run_laws.proofs.ReadInvariants.{replay_read}
use Rattle.ioa_run_laws.proofs.laws.invariants_law.Goals as goal

pub returns : goal.returns
returns c = record { replay = replay_read }
