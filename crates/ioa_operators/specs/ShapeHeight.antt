-- How high a shape is (form): what each recursion over shapes counts down.
use Rattle.std.specs.Prelude.{ℕ, ◌+◌, max}
use Rattle.ioa_operators.specs.Shapes.{PlainShape, truths, integers, naturals, constants, tuples, sequences}
use Rattle.ioa_operators.specs.Shapes.{sets, maps, PlainShapes, no_shapes, shape}

-- how many shapes are nested in one another, at most, without the innermost
abbrev mutual
  pub height : PlainShape → ℕ
  height truths = 0
  height integers = 0
  height naturals = 0
  height (constants w from many) = 0
  height (tuples w names ss) = heights ss + 1
  height (sequences s) = height s + 1
  height (sets s) = height s + 1
  height (maps k v) = max (height k) (height v) + 1

  pub heights : PlainShapes → ℕ
  heights no_shapes = 0
  heights (shape s more) = max (height s) (heights more)
