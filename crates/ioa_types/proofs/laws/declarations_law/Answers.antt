use Rattle.ioa_types.proofs.TypeDeclarations.{type_sound, type_found}
use Rattle.ioa_types.proofs.laws.declarations_law.Goals as goal

pub returns : goal.returns
returns c = record { sound = type_sound; found = type_found }
