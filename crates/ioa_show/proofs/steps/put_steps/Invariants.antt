use Rattle.std.proofs.Common.{◌≡◌, ◌+◌, length}
use Rattle.ioa_paper.specs.Papers.{and_text}
use Rattle.ioa_show.specs.Shown.{Continues}
use Rattle.ioa_show.specs.Steps.{step_lines}
use Rattle.ioa_show.proofs.steps.put_steps.Given as goal

-- the position counts the entries that are passed; what is written so far, and then the lines that are left
abbrev pub invariant-loop-entry : goal.invariant-loop-entry
invariant-loop-entry g l = record {
  counted : l.position + length l.entry-iterator ≡ length l.schedule;
  due : and_text l.paper (step_lines l.names l.position l.entry-iterator l.course)
      ≡ and_text l.initial.paper (step_lines l.names 0 l.schedule l.initial.course);
  part : Continues l.initial.paper l.paper;
}
