use Rattle.std.proofs.Common.{◌≡◌, drop}
use Rattle.ioa_paper.specs.Papers.{and_text}
use Rattle.ioa_show.specs.Marks.{breaks}
use Rattle.ioa_show.proofs.breaks.put_breaks.Given as goal

-- what is written so far, and then what is left to be said
abbrev pub invariant-loop-position : goal.invariant-loop-position
invariant-loop-position g l =
    and_text l.paper (breaks l.frame l.position (drop l.position l.invariants) (drop l.position l.verdicts))
    ≡ and_text l.initial.paper (breaks l.frame 0 l.invariants l.verdicts)
