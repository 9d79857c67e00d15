use Rattle.std.proofs.Common.{inl, refl}
use Rattle.ioa_compose.specs.Start.{start}
use Rattle.ioa_compose.proofs.replaying.replay.Goals as goal

pub returns-in-Err-clause-stopped : goal.returns-in-Err-clause-stopped
returns-in-Err-clause-stopped c = record { reached = start c.args.system.now; before = refl; fault = inl refl }
