-- The nodes of a run that is told, as the code keeps them (view).
use Rattle.ioa_turns.specs.NodeTurns.{PlainProgress, progress_of}
use Rattle.ioa_tell.specs.declared.visited.Visited.{Visited}

-- how far a node has come; the last look at it is nothing that a telling is of
abbrev pub progress_in : {O : Type 0} → Visited O → PlainProgress
progress_in n = progress_of n.progress
