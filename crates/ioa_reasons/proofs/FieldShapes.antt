-- The shape of a field of a tuple type.
use Rattle.std.proofs.Common.{◌≡◌, ℕ, List, [], ◌∷◌, Option, Some, None, refl, sym, ap, ◌∙◌, slice_get}
use Rattle.std.specs.Option.{option_and_then, option_map}
use Rattle.std.specs.Prelude.{IfSome}
use Rattle.ioa_operators.specs.Shapes.{PlainShape, field_position, shapes_of, tuples}
use Rattle.ioa_terms.specs.Sorted.{field_shape, listed_shapes}

listed : (ss : List PlainShape) → listed_shapes (shapes_of ss) ≡ ss
listed [] = refl
listed (s ∷ more) = ap (λ (xs : List PlainShape). s ∷ xs) (listed more)

-- what is found among the shapes beside the names is the shape of the field
pub field_found : {A : Type 0} (g : A → PlainShape) (found : Option A) (w type : List ℕ) (names : List (List ℕ)) (ss : List PlainShape) → option_map g found ≡ option_and_then (slice_get ss) (field_position w names) →
    IfSome found (λ s. field_shape w (tuples type names (shapes_of ss)) ≡ Some (g s))
field_found g None w type names ss h = tt
field_found g (Some s) w type names ss h = ap (λ (xs : List PlainShape). option_and_then (slice_get xs) (field_position w names)) (listed ss) ∙ sym h
