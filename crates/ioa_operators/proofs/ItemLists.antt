-- Lists of values of which the first is taken.
use Rattle.std.proofs.Common.{◌≡◌, List, [], ◌∷◌, refl, length, ◌==◌, false, Some}
use Rattle.ioa_values.specs.ItemLists.{without_one}
use Rattle.ioa_values.specs.Data.{Data}
use Rattle.ioa_operators.specs.Operators.{rest, sequence_of}

-- what follows the first item of a list that is not empty
pub rest_of_some : (ds : List Data) → (length ds == 0) ≡ false → rest ds ≡ Some (sequence_of (without_one ds))
rest_of_some [] h = absurd (cc)
rest_of_some (d ∷ ds) h = refl
