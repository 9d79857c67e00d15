-- Whether two shapes are the same (profile).
use Rattle.std.specs.Prelude.{Bool, true, false, ◌&&◌, ◌==◌, nat_eq}
use lib.Pointwise.{pointwise}
use Rattle.ioa_operators.specs.Shapes.{PlainShape, truths, integers, naturals, constants, tuples, sequences}
use Rattle.ioa_operators.specs.Shapes.{sets, maps, PlainShapes, no_shapes, shape}

-- two shapes are the same if they are of one kind and have the same parts
abbrev mutual
  pub same_shape : PlainShape → PlainShape → Bool
  same_shape truths truths = true
  same_shape integers integers = true
  same_shape naturals naturals = true
  same_shape (constants w k m) (constants v l n) = pointwise nat_eq w v && (k == l && m == n)
  same_shape (tuples w ns ss) (tuples v ms ts) =
      pointwise nat_eq w v && (pointwise (pointwise nat_eq) ns ms && same_shapes ss ts)
  same_shape (sequences s) (sequences t) = same_shape s t
  same_shape (sets s) (sets t) = same_shape s t
  same_shape (maps k v) (maps l w) = same_shape k l && same_shape v w
  same_shape a b = false

  pub same_shapes : PlainShapes → PlainShapes → Bool
  same_shapes no_shapes no_shapes = true
  same_shapes (shape s ss) (shape t ts) = same_shape s t && same_shapes ss ts
  same_shapes ss ts = false
