use Rattle.ioa_ending_laws.proofs.MetNodes.{met_missing, met_other, met_own, met_queue}
use Rattle.ioa_ending_laws.proofs.laws.met_law.Goals as goal

pub returns : goal.returns
returns c = record {
  own = met_own;
  other = met_other;
  queue = met_queue;
  missing = met_missing;
}
