use Rattle.std.proofs.Common.{◌≡◌, length}
use Rattle.ioa_lines.specs.Lines.{entries_left}
use Rattle.ioa_schedule_check.specs.Schedules.{all_read}
use Rattle.ioa_schedule_check.proofs.going.read_all.Given as goal

-- all lines are read if those that are left are
abbrev pub invariant-loop-entry : goal.invariant-loop-entry
invariant-loop-entry l = all_read (entries_left l.system l.lines) ≡ all_read (entries_left l.system l.fn.lines)

-- each turn takes a line
abbrev pub decreases-loop-entry : goal.decreases-loop-entry
decreases-loop-entry l = length l.lines.lines
