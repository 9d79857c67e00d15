use Rattle.std.proofs.Common.{◌+◌, map}
use Rattle.ioa_solo.specs.Solo.{solo_begin}
use Rattle.ioa_turns.specs.NodeTurns.{progress_at}
use Rattle.ioa_solo.proofs.Beginnings.{cut_begins}
use Rattle.ioa_solo.proofs.laws.cut_law.Goals as goal

pub returns : goal.returns
returns c = λ s attempts limit left endings h. cut_begins limit (attempts + 1) (solo_begin s) (map (progress_at attempts) s.programs) left endings h
