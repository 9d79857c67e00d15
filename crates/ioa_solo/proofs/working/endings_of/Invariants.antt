use Rattle.std.proofs.Common.{◌≡◌, map, take}
use Rattle.ioa_solo.specs.Works.{ending_at}
use Rattle.ioa_solo.proofs.working.endings_of.Given as goal

-- the endings so far are those of the nodes gone by
abbrev pub invariant-loop-node : goal.invariant-loop-node
invariant-loop-node g l = l.endings ≡ map (ending_at l.system.programs l.visited) (take l.node-index l.nodes)
