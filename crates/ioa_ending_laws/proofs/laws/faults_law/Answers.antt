use Rattle.ioa_ending_laws.proofs.NumberedFaults.{faults_differ, not_enabled_alone, refusal_numbered, stale_alone, step_numbered, view_numbered}
use Rattle.ioa_ending_laws.proofs.laws.faults_law.Goals as goal

pub returns : goal.returns
returns c = record {
  refusal = refusal_numbered;
  stale = stale_alone;
  step = step_numbered;
  not_enabled = not_enabled_alone;
  view = view_numbered;
  differ = faults_differ;
}
