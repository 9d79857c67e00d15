use Rattle.ioa_compose.proofs.Projections.{replays}
use Rattle.ioa_compose.proofs.Starts.{start_state}
use Rattle.ioa_solo.proofs.OwnStates.{solo_own, solo_there}
use Rattle.ioa_solo.proofs.SoloRuns.{solo_replays, solo_settled}
use Rattle.ioa_solo.proofs.Termination.{solo_ends}
use Rattle.ioa_solo.proofs.laws.solo_law.Goals as goal

pub returns : goal.returns
returns c = record {
  ends = solo_ends;
  settled = solo_settled;
  replays = solo_replays;
  execution = λ s attempts limit w. replays _ _ _ (start_state s w) (solo_replays s attempts limit).leads;
  own = solo_own;
  there = solo_there;
}
