-- Names by which things are found, as the code keeps them (form).
use Rattle.std.specs.Prelude.{◌≡◌, ℕ, List}
use Rattle.std.specs.List.{IsDistinct}
use Rattle.ioa_terms.specs.Bindings.{same_word}

-- an index of names, which differ from each other
pub record AreIndexed (index names : List (List ℕ)) : Type 0 where
  pub same : index ≡ names
  pub differ : IsDistinct same_word names
