use Rattle.std.proofs.Common.{◌≡◌}
use Rattle.ioa_paper.specs.Papers.{and_text}
use Rattle.ioa_show.specs.Marks.{ticks}
use Rattle.ioa_show.proofs.lanes.put_ticks.Given as goal

-- what is written so far are the numbers above the actions gone by
abbrev pub invariant-loop-position : goal.invariant-loop-position
invariant-loop-position g l = l.paper ≡ and_text l.initial.paper (ticks l.frame l.position)
