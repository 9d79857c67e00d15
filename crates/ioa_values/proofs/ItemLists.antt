-- Lists of values and of entries, there and back.
use Rattle.std.proofs.Common.{◌≡◌, List, [], ◌∷◌, refl, ap}
use Rattle.ioa_values.specs.Data.{Data, items_of, list_of, entries_of, pairs_of}

pub list_of_items : (ds : List Data) → list_of (items_of ds) ≡ ds
list_of_items [] = refl
list_of_items (d ∷ ds) = ap (λ (xs : List Data). d ∷ xs) (list_of_items ds)

pub pairs_of_entries : (es : List (Data × Data)) → pairs_of (entries_of es) ≡ es
pairs_of_entries [] = refl
pairs_of_entries (e ∷ es) = ap (λ (xs : List (Data × Data)). e ∷ xs) (pairs_of_entries es)
