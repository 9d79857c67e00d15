use Rattle.ioa_show.proofs.Plain.{plain_json}
use Rattle.ioa_show.proofs.laws.shape_law.Goals as goal

pub returns : goal.returns
returns c = plain_json
