use Rattle.ioa_lines.proofs.CompleteLine.{line_complete}
use Rattle.ioa_lines.proofs.SoundLine.{line_sound}
use Rattle.ioa_lines.proofs.laws.line_law.Goals as goal

pub returns : goal.returns
returns c = λ s xs e. (line_sound s xs e, line_complete s xs e)
