-- Each part of a shape is less high than the shape (form).
use Rattle.std.specs.Prelude.{◌+◌, ◌≤◌, max, List, [], ◌∷◌}
use Rattle.std.proofs.Common.{arith}
use denote.Param.Weighed.{most}
use Rattle.ioa_operators.specs.Shapes.{PlainShape, shapes_of}
use Rattle.ioa_operators.specs.ShapeHeight.{height, heights}
use Rattle.ioa_operators.specs.ShapeView.{shape_of}
use Rattle.ioa_operators.specs.declared.shape.ShapeForm.{ShapeForm}
use Rattle.ioa_operators.specs.declared.shape.ShapeForm.TheVariants.{Truths, Integers, Naturals, Constants, Tuples}
use Rattle.ioa_operators.specs.declared.shape.ShapeForm.TheVariants.{Sequences, Sets, Maps}
use Rattle.ioa_operators.specs.declared.shape.Shape.TheDeep.{deep-ShapeForm}

-- of the fields of a tuple type
pub most-le-heights : (ss : List PlainShape) → most (λ s. height s + 1) ss ≤ heights (shapes_of ss) + 1
most-le-heights [] = omega arith
most-le-heights (s ∷ ss) = omega (arith, most-le-heights ss)

pub deep-le-height : (f : ShapeForm) → max (deep-ShapeForm f) 0 ≤ height (shape_of f)
deep-le-height Truths = omega arith
deep-le-height Integers = omega arith
deep-le-height Naturals = omega arith
deep-le-height (Constants w from many) = omega arith
deep-le-height (Tuples w names ss) = omega (arith, most-le-heights ss.value.items)
deep-le-height (Sequences s) = omega arith
deep-le-height (Sets s) = omega arith
deep-le-height (Maps k v) = omega arith
