use Rattle.std.proofs.Common.{◌≡◌, min, length, refl, arith}
use Rattle.ioa_operators.specs.Shapes.{shapes_of}
use Rattle.ioa_operators.specs.SameShapes.{same_shapes}
use Rattle.ioa_operators.proofs.SameLists.{same_ended}
use Rattle.ioa_operators.proofs.shape.+comparing.Goals as goal

-- the shorter list has ended
pub are_same-returns : goal.are_same-returns
are_same-returns t c =
    let at_end : c.loop-position.position ≡ min (length c.args.shapes.now.items) (length c.args.others.now.items) = omega arith in
    let ended = same_ended (λ ss ts. same_shapes (shapes_of ss) (shapes_of ts)) refl (λ t ts. refl) (λ s ss. refl) c.args.shapes.now.items c.args.others.now.items c.loop-position.position at_end in
    cc (c.args.shapes.now.ok.0, c.args.others.now.ok.0)
