use Rattle.ioa_compose.proofs.Picks.{picks_of-entry, joint_pick-entry}
use Rattle.ioa_compose.proofs.laws.pick_law.Goals as goal

pub returns : goal.returns
returns c = record { parts = picks_of-entry; joint = joint_pick-entry }
