-- What the form of a shape in the code means (view).
use Rattle.ioa_operators.specs.Shapes.{PlainShape, truths, integers, naturals, constants, tuples, sequences}
use Rattle.ioa_operators.specs.Shapes.{sets, maps, shapes_of}
use Rattle.ioa_operators.specs.declared.shape.ShapeForm.{ShapeForm}
use Rattle.ioa_operators.specs.declared.shape.ShapeForm.TheVariants.{Truths, Integers, Naturals, Constants, Tuples}
use Rattle.ioa_operators.specs.declared.shape.ShapeForm.TheVariants.{Sequences, Sets, Maps}

abbrev pub shape_of : ShapeForm → PlainShape
shape_of Truths = truths
shape_of Integers = integers
shape_of Naturals = naturals
shape_of (Constants w from many) = constants w from many
shape_of (Tuples w names ss) = tuples w names.value.items (shapes_of ss.value.items)
shape_of (Sequences s) = sequences s.value
shape_of (Sets s) = sets s.value
shape_of (Maps k v) = maps k.value v.value
