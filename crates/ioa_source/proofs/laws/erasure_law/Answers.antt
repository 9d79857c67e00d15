use Rattle.ioa_source.proofs.Erased.{text_erased}
use Rattle.ioa_source.proofs.laws.erasure_law.Goals as goal

pub returns : goal.returns
returns c = text_erased
