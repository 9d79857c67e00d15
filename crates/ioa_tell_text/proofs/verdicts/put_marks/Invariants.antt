use Rattle.std.proofs.Common.{◌≡◌, drop}
use Rattle.ioa_paper.specs.Papers.{and_text}
use Rattle.ioa_tell_text.specs.Verdicts.{marks_text}
use Rattle.ioa_tell_text.proofs.verdicts.put_marks.Given as goal

-- what is written so far, and then the lines that are left
abbrev pub invariant-loop-position : goal.invariant-loop-position
invariant-loop-position g l =
    and_text l.paper (marks_text l.moment (drop l.position l.invariants) (drop l.position l.verdicts))
    ≡ and_text l.initial.paper (marks_text l.moment l.invariants l.verdicts)
