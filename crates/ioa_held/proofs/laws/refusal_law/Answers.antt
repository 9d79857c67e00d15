use Rattle.ioa_held.proofs.RefusalLaws.{behind, older_look, stale}
use Rattle.ioa_held.proofs.laws.refusal_law.Goals as goal

pub returns : goal.returns
returns c = record { look = older_look; attempt = behind; stale = stale }
