use Rattle.std.proofs.Common.{◌≡◌, drop}
use Rattle.ioa_operators.specs.Shapes.{shapes_of}
use Rattle.ioa_operators.specs.SameShapes.{same_shapes}
use Rattle.ioa_operators.proofs.shape.+comparing.Given as goal

-- what is left decides as the whole does
abbrev pub invariant-are_same-loop-position : goal.invariant-are_same-loop-position
invariant-are_same-loop-position l =
    same_shapes (shapes_of (drop l.position l.shapes.items)) (shapes_of (drop l.position l.others.items))
    ≡ same_shapes (shapes_of l.shapes.items) (shapes_of l.others.items)
