use Rattle.ioa_passes.proofs.PassLaws.{by_commit, by_look, by_refusal, committed, fresh, met, shown}
use Rattle.ioa_passes.proofs.laws.pass_law.Goals as goal

pub returns : goal.returns
returns c = record { look = by_look; commit = by_commit; refusal = by_refusal; shown = shown; committed = committed; met = met; fresh = fresh }
