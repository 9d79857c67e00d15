use Rattle.std.proofs.Common.{◌≡◌, ◌∷◌, [], ◌++◌, rules}
use Rattle.ioa_workers.specs.Slots.{ending_in}
use Rattle.ioa_workers.proofs.InOrder.{endings_next}
use Rattle.ioa_workers.proofs.gathering.endings_of.Goals as goal

pub loop-node-preserved : goal.loop-node-preserved
loop-node-preserved g c =
    let put : c.push.new.self.items ≡ c.loop-node.endings.items ++ ending_in c.args.slots.now c.loop-node.node ∷ [] = search rules in
    rw put (endings_next _ _ _ c.loop-node.invariant)
