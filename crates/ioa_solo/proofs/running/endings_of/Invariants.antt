use Rattle.std.proofs.Common.{◌≡◌, map, take}
use Rattle.ioa_solo.specs.Solo.{ending_of}
use Rattle.ioa_solo.specs.Visits.{progress_in}
use Rattle.ioa_solo.proofs.running.endings_of.Given as goal

-- the endings so far are those of the nodes gone by
abbrev pub invariant-loop-node : goal.invariant-loop-node
invariant-loop-node g l = l.endings.items ≡ map ending_of (map progress_in (take l.node-index l.nodes))
