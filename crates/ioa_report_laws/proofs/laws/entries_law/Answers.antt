use Rattle.ioa_report_laws.proofs.TakenEntries.{entries_taken, replay_taken}
use Rattle.ioa_report_laws.proofs.laws.entries_law.Goals as goal

pub returns : goal.returns
returns c = record {
  execution = entries_taken;
  replay = replay_taken;
}
