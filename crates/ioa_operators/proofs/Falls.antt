-- The fields of a tuple type are less high than the type, as a recursion over shapes counts it.
use Rattle.std.proofs.Common.{◌+◌, ◌*◌, ◌≤◌, List, [], ◌∷◌, arith}
use denote.Param.Weighed.{most, w_this}
use Rattle.ioa_operators.specs.Shapes.{shapes_of}
use Rattle.ioa_operators.specs.ShapeHeight.{heights}
use Rattle.ioa_operators.specs.declared.shape.Shape.{Shape}
use Rattle.ioa_operators.specs.declared.shape.Shape.TheDeep.{size-Shape}

pub most_shapes : (ss : List Shape) → most (w_this.weight Shape size-Shape) ss ≤ 2 * heights (shapes_of ss) + 2
most_shapes [] = omega arith
most_shapes (s ∷ ss) = omega (arith, most_shapes ss)
