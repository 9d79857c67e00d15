use Rattle.ioa_text_laws.proofs.OneSystem.{one_system}
use Rattle.ioa_text_laws.proofs.laws.one_system_law.Goals as goal

pub returns : goal.returns
returns c = one_system c.one_source.ensures c.check_law.ensures.found
