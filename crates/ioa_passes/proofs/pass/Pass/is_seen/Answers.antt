use Rattle.ioa_passes.proofs.Passes.{seen_here}
use Rattle.ioa_passes.proofs.pass.Pass.is_seen.Goals as goal

pub returns-then-is_first : goal.returns-then-is_first
returns-then-is_first g c = λ t.
    let first = c.is_first.ensures c.if-is_first.true in
    let here = rw c.deref.ensures.value at (c.stands_at.ensures t) in
    rw (← c.self.view_is)
    (seen_here c.self.inside.seen.items c.self.inside.index c.args.read.now c.slot-slot.result c.self.invariant first here)
