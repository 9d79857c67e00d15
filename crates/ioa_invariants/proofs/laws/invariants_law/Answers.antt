use Rattle.std.proofs.Common.{sym}
use Rattle.ioa_invariants.proofs.Complete.{invariant_found}
use Rattle.ioa_invariants.proofs.Sound.{invariant_sound}
use Rattle.ioa_invariants.proofs.laws.invariants_law.Goals as goal

pub returns-clause-sound : goal.returns-clause-sound
returns-clause-sound c = invariant_sound

pub returns-clause-found : goal.returns-clause-found
returns-clause-found c = λ constants ps cs v found h. sym (invariant_found constants ps cs v found h)
