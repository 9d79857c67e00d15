use Rattle.std.proofs.Common.{◌≡◌, drop, false}
use Rattle.ioa_paper.specs.Papers.{and_text}
use Rattle.ioa_show.specs.Judged.{marks_left}
use Rattle.ioa_show.proofs.judged.put_open_marks.Given as goal

-- what is written so far, and then the marks that are left
abbrev pub invariant-loop-position : goal.invariant-loop-position
invariant-loop-position g l =
    and_text l.paper (marks_left l.passed l.has_some (drop l.position l.invariants) (drop l.position l.verdicts))
    ≡ and_text l.initial.paper (marks_left l.passed false l.invariants l.verdicts)
