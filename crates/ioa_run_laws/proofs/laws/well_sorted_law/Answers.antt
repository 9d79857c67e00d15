use Rattle.ioa_run_laws.proofs.Evaluated.{node_sorted, confs_sorted}
use Rattle.ioa_run_laws.proofs.Runs.{replay_shaped}
use Rattle.ioa_run_laws.proofs.Parts.{no_sum_of_truth, throughout_parts, throughout_value}
use Rattle.ioa_run_laws.proofs.laws.well_sorted_law.Goals as goal

pub returns : goal.returns
returns c = record {
  node = λ x s c h g. node_sorted x s h c g;
  replay = λ x s entries cs h e. confs_sorted x s cs h (replay_shaped x s entries cs h e);
  value = throughout_value;
  parts = throughout_parts;
  sum = no_sum_of_truth;
}
