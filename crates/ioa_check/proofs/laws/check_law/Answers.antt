use Rattle.ioa_check.proofs.SoundSystems.{system_sound}
use Rattle.ioa_check.proofs.Complete.{system_found}
use Rattle.ioa_check.proofs.Declared.{declared_once}
use Rattle.ioa_check.proofs.laws.check_law.Goals as goal

pub returns : goal.returns
returns c = record { sound = system_sound; found = system_found; declared = declared_once }
