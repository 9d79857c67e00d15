use Rattle.ioa_types.proofs.Meant.{no_text_types, type_added}
use Rattle.ioa_types.proofs.laws.text_types_law.Goals as goal

pub returns : goal.returns
returns c = record { none = no_text_types; more = type_added }
