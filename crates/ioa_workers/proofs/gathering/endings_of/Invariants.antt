use Rattle.ioa_workers.specs.Slots.{AreEndingsIn}
use Rattle.ioa_workers.proofs.gathering.endings_of.Given as goal

-- the endings so far are those of the nodes gone by
abbrev pub invariant-loop-node : goal.invariant-loop-node
invariant-loop-node g l = AreEndingsIn l.slots l.node l.endings.items
