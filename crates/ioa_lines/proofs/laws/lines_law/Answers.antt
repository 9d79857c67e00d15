use Rattle.ioa_lines.specs.Lines.{entries_left, lines_of}
use Rattle.ioa_lines.proofs.LinesLaw.{bad_complete, bad_sound, entries_complete, entries_sound}
use Rattle.ioa_lines.proofs.laws.lines_law.Goals as goal

pub returns-clause-entries : goal.returns-clause-entries
unfolding entries_left
returns-clause-entries c = λ s text entries. (entries_sound s (lines_of text) 0 entries, λ h. entries_complete h 0)

pub returns-clause-bad : goal.returns-clause-bad
unfolding entries_left
returns-clause-bad c = λ s text k. (bad_sound s (lines_of text) k, bad_complete s (lines_of text) k)
