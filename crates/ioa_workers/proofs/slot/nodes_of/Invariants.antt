use Rattle.ioa_workers.specs.Slots.{node_numbers}
use Rattle.ioa_workers.proofs.Dealing.{AreDealt}
use Rattle.ioa_workers.proofs.slot.nodes_of.Given as goal

-- the nodes so far are those of the places gone by
abbrev pub invariant-loop-place : goal.invariant-loop-place
invariant-loop-place l = AreDealt (node_numbers l.system) l.worker l.workers l.place l.nodes.items
