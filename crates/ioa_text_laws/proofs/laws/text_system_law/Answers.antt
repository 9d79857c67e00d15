use Rattle.ioa_text_laws.proofs.TextSystems.{text_system}
use Rattle.ioa_text_laws.proofs.laws.text_system_law.Goals as goal

pub returns : goal.returns
returns c = text_system
