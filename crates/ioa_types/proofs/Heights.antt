-- Heights of lists of shapes.
use Rattle.std.proofs.Common.{◌≡◌, ◌++◌, max, List, [], ◌∷◌, arith}
use Rattle.ioa_operators.specs.Shapes.{PlainShape, shapes_of}
use Rattle.ioa_operators.specs.ShapeHeight.{height, heights}

-- one more shape
pub heights_more : (ss : List PlainShape) (s : PlainShape) → heights (shapes_of (ss ++ s ∷ [])) ≡ max (heights (shapes_of ss)) (height s)
heights_more [] s = omega arith
heights_more (t ∷ ss) s = omega (arith, heights_more ss s)
