use Rattle.std.proofs.Common.{◌≡◌, drop, map}
use Rattle.std.specs.Arc.{arc_value}
use Rattle.ioa_paper.specs.Papers.{and_text}
use Rattle.ioa_show.specs.Sequences.{participant_lines}
use Rattle.ioa_show.proofs.sequence.put_participants.Given as goal

-- what is written so far, and then the nodes that are left
abbrev pub invariant-loop-program : goal.invariant-loop-program
invariant-loop-program g l =
    and_text l.paper (participant_lines (map arc_value (drop l.program-index l.programs)))
    ≡ and_text l.initial.paper (participant_lines (map arc_value l.programs))
