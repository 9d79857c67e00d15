use Rattle.std.proofs.Common.{◌≡◌, length}
use Rattle.ioa_schedule_check.specs.Taken.{steps_left}
use Rattle.ioa_schedule_check.proofs.checking.follow.Given as goal

-- what is answered is what the lines that are left are answered from here on
abbrev pub invariant-loop-refused : goal.invariant-loop-refused
invariant-loop-refused l = steps_left l.system l.lines l.course ≡ steps_left l.fn.system l.fn.lines l.fn.course

-- each turn takes a line
abbrev pub decreases-loop-refused : goal.decreases-loop-refused
decreases-loop-refused l = length l.lines.lines
