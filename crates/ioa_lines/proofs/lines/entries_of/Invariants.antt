use Rattle.std.proofs.Common.{◌≡◌, length}
use Rattle.ioa_lines.specs.Lines.{entries_left, lines_answer}
use Rattle.ioa_lines.proofs.Left.{behind}
use Rattle.ioa_lines.proofs.lines.entries_of.Given as goal

-- the entries of the lines that are left come behind those that were read
abbrev pub invariant-loop-entries : goal.invariant-loop-entries
invariant-loop-entries l = lines_answer l.system l.text ≡ behind l.entries.items (entries_left l.system l.lines)

-- each turn takes a line
abbrev pub decreases-loop-entries : goal.decreases-loop-entries
decreases-loop-entries l = length l.lines.lines
