-- The shapes of fields as lists.
use Rattle.std.proofs.Common.{◌≡◌, List, [], ◌∷◌, refl, ap}
use Rattle.ioa_operators.specs.Shapes.{PlainShape, shapes_of}
use Rattle.ioa_terms.specs.Sorted.{listed_shapes}

-- a list of shapes, there and back
pub listed_same : (ss : List PlainShape) → listed_shapes (shapes_of ss) ≡ ss
listed_same [] = refl
listed_same (s ∷ ss) = ap (λ more. s ∷ more) (listed_same ss)
