use Rattle.std.proofs.Common.{◌≡◌, ◌++◌, length}
use Rattle.ioa_schedule_check.specs.Taken.{LeadsOn, refused_left, steps_left, taken_left}
use Rattle.ioa_schedule_check.proofs.given.take_all.Given as goal

-- what is answered is what the lines that are left are answered from here on, and what was taken, with what they take,
-- is what is taken of all, and leads to where the course is; and the entry for which all are refused is that of those left
abbrev pub invariant-loop-entry : goal.invariant-loop-entry
invariant-loop-entry l = record {
  answer : steps_left l.system l.lines l.course ≡ steps_left l.fn.system l.fn.lines l.fn.course;
  taken : l.taken ++ taken_left l.system l.lines l.course
      ≡ l.fn.taken ++ taken_left l.fn.system l.fn.lines l.fn.course;
  moved : LeadsOn l.fn.taken l.fn.course l.taken l.course;
  refused : refused_left l.system l.lines l.course ≡ refused_left l.fn.system l.fn.lines l.fn.course;
}

-- each turn takes a line
abbrev pub decreases-loop-entry : goal.decreases-loop-entry
decreases-loop-entry l = length l.lines.lines
