use Rattle.std.proofs.Common.{◌≡◌, map, take}
use Rattle.std.specs.Arc.{arc_value}
use Rattle.ioa_turns.specs.NodeTurns.{progress_at}
use Rattle.ioa_tell.specs.Nodes.{progress_in}
use Rattle.ioa_tell.proofs.telling.start_nodes.Given as goal

-- the nodes so far are those of the programs gone by
abbrev pub invariant-loop-program : goal.invariant-loop-program
invariant-loop-program g l =
    map progress_in l.nodes.items ≡ map (progress_at l.attempts) (map arc_value (take l.program-index l.programs))
