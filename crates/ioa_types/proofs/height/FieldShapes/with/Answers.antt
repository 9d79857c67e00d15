use Rattle.std.proofs.Common.{arith}
use Rattle.ioa_types.proofs.Heights.{heights_more}
use Rattle.ioa_types.proofs.height.FieldShapes.with.Goals as goal

pub invariant_of-result : goal.invariant_of-result
invariant_of-result c =
    let highest = heights_more c.self.inside.shapes.items c.shape.inside.shape in
    rw c.in_ok-push.ensures.items (record { same = omega (arith, highest, c.max-highest.ensures, c.self.invariant.same, c.shape.invariant.same); low = omega (arith, c.max-highest.ensures, c.self.invariant.low, c.shape.invariant.low) })
