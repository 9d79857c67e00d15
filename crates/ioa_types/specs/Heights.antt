-- Heights of shapes, as the code keeps them (form).
use Rattle.std.specs.Prelude.{◌≡◌, ◌<◌, ℕ, List}
use Rattle.ioa_operators.specs.Shapes.{PlainShape, shapes_of}
use Rattle.ioa_operators.specs.ShapeHeight.{height, heights}
use Rattle.ioa_types.specs.declared.height.TheConstants.{SHAPE_LIMIT}

-- the number is how many shapes are nested in the shape, and it is below the limit
pub record IsHeight (n : ℕ) (s : PlainShape) : Type 0 where
  pub same : n ≡ height s
  pub low : n < SHAPE_LIMIT

-- the same of the highest of shapes
pub record IsHighest (n : ℕ) (ss : List PlainShape) : Type 0 where
  pub same : n ≡ heights (shapes_of ss)
  pub low : n < SHAPE_LIMIT
