-- When a schedule block is empty.
use Rattle.std.proofs.Common.{◌≡◌, List, [], ◌∷◌, length, map, refl, arith}
use Rattle.std.specs.Prelude.{◌==◌}
use Rattle.ioa_front.specs.Spelling.{has_none}

-- the view of a list has no item just if the length of the list is 0
pub none_of_mapped : {A B : Type 0} (f : A → B) (xs : List A) → has_none (map f xs) ≡ (length xs == 0)
none_of_mapped f [] = refl
none_of_mapped f (x ∷ xs) = grind arith
