use Rattle.ioa_run_laws.proofs.ChosenValues.{replay_chosen, run_chosen}
use Rattle.ioa_run_laws.proofs.laws.chosen_law.Goals as goal

pub returns : goal.returns
returns c = record { execution = run_chosen; replay = replay_chosen }
