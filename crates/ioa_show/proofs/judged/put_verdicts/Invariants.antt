use Rattle.std.proofs.Common.{◌≡◌, drop}
use Rattle.ioa_paper.specs.Papers.{and_text}
use Rattle.ioa_show.specs.Judged.{verdict_lines}
use Rattle.ioa_show.proofs.judged.put_verdicts.Given as goal

-- what is written so far, and then the lines that are left
abbrev pub invariant-loop-position : goal.invariant-loop-position
invariant-loop-position g l =
    and_text l.paper (verdict_lines (drop l.position l.invariants) (drop l.position l.verdicts))
    ≡ and_text l.initial.paper (verdict_lines l.invariants l.verdicts)
