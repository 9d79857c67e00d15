use Rattle.std.proofs.Common.{◌≡◌, drop, map}
use Rattle.std.specs.Arc.{arc_value}
use Rattle.ioa_paper.specs.Papers.{and_text}
use Rattle.ioa_show.specs.Marks.{lanes}
use Rattle.ioa_show.proofs.lanes.put_lanes.Given as goal

-- what is written so far, and then the nodes that are left
abbrev pub invariant-loop-program : goal.invariant-loop-program
invariant-loop-program g l =
    and_text l.paper (lanes l.frame (map arc_value (drop l.program-index l.programs)))
    ≡ and_text l.initial.paper (lanes l.frame (map arc_value l.programs))
