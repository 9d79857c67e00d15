use Rattle.std.proofs.Common.{◌≡◌, ◌+◌, length}
use Rattle.ioa_paper.specs.Papers.{and_text}
use Rattle.ioa_show.specs.Judged.{marks_at}
use Rattle.ioa_show.specs.Shown.{Continues}
use Rattle.ioa_show.specs.States.{later_states}
use Rattle.ioa_show.proofs.states.put_later.Given as goal

-- the entries that are passed are counted; what is written so far, and then the states that are left
abbrev pub invariant-loop-entry : goal.invariant-loop-entry
invariant-loop-entry g l = record {
  counted : l.passed + length l.entry-iterator ≡ length l.schedule;
  due : and_text l.paper (later_states l.names (marks_at l.invariants l.verdicts) l.passed l.entry-iterator l.course)
      ≡ and_text l.initial.paper (later_states l.names (marks_at l.invariants l.verdicts) 0 l.schedule l.initial.course);
  part : Continues l.initial.paper l.paper;
}
