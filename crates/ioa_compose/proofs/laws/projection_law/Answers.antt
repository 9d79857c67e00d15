use Rattle.ioa_compose.specs.Steps.{IsStep}
use Rattle.ioa_compose.proofs.Projections.{projects, replay_projects}
use Rattle.ioa_compose.proofs.laws.projection_law.Goals as goal

pub returns : goal.returns
returns c = record { execution = projects IsStep; replay = replay_projects }
