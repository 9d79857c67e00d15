-- What a look reads by slots (profile).
use Rattle.std.specs.Prelude.{ℕ, List, [], ◌∷◌, ◌++◌, Option, slice_get}
use Rattle.ioa_book.specs.Proposals.{one_or_none}

-- what there is in places, in order
abbrev pub those_there : {A : Type 0} → List (Option A) → List A
those_there [] = []
those_there (place ∷ more) = one_or_none place ++ those_there more

-- what there is in each of these slots
abbrev pub places_at : {A : Type 0} → List ℕ → List A → List (Option A)
places_at [] xs = []
places_at (slot ∷ more) xs = slice_get xs slot ∷ places_at more xs

-- the items in these slots
abbrev pub items_at : {A : Type 0} → List ℕ → List A → List A
items_at slots xs = those_there (places_at slots xs)
