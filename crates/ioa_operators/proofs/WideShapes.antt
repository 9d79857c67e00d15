-- A shape in which nothing is widened is the shape.
use Rattle.std.proofs.Common.{◌≡◌, false, refl, ap}
use Rattle.ioa_values.specs.Data.{Data, Items}
use Rattle.ioa_operators.specs.Shapes.{PlainShape, PlainShapes, truths, integers, naturals, constants, tuples, sequences, sets, maps, no_shapes, shape, has_shape, have_shapes, wide_shape_if, wide_shapes_if}

mutual
  same_shape : (s : PlainShape) → wide_shape_if false s ≡ s
  same_shape truths = refl
  same_shape integers = refl
  same_shape naturals = refl
  same_shape (constants w from many) = refl
  same_shape (tuples w names ss) = ap (λ (xs : PlainShapes). tuples w names xs) (same_shapes ss)
  same_shape (sequences s) = ap (λ (x : PlainShape). sequences x) (same_shape s)
  same_shape (sets s) = ap (λ (x : PlainShape). sets x) (same_shape s)
  same_shape (maps k v) = rw (same_shape k, same_shape v) refl

  same_shapes : (ss : PlainShapes) → wide_shapes_if false ss ≡ ss
  same_shapes no_shapes = refl
  same_shapes (shape s ss) = rw (same_shape s, same_shapes ss) refl

-- so a value has the one if it has the other
pub narrow : (s : PlainShape) (d : Data) → has_shape (wide_shape_if false s) d ≡ has_shape s d
narrow s d = rw (same_shape s) refl

pub all_narrow : (ss : PlainShapes) (ds : Items) → have_shapes (wide_shapes_if false ss) ds ≡ have_shapes ss ds
all_narrow ss ds = rw (same_shapes ss) refl
