use Rattle.std.proofs.Common.{◌≡◌, drop}
use Rattle.ioa_paper.specs.Papers.{and_text}
use Rattle.ioa_monitor.specs.Reports.{invariant_lines}
use Rattle.ioa_monitor.proofs.invariants.put_verdicts.Given as goal

-- what is written so far, and then the lines that are left
abbrev pub invariant-loop-position : goal.invariant-loop-position
invariant-loop-position g l =
    and_text l.paper (invariant_lines (drop l.position l.invariants) (drop l.position l.verdicts))
    ≡ and_text l.initial.paper (invariant_lines l.invariants l.verdicts)
