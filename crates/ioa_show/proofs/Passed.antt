-- Items that are passed, and those that are left.
use Rattle.std.proofs.Common.{◌≡◌, List, [], ◌∷◌, ◌++◌, map, append_assoc}
use Rattle.std.proofs.lemmas.List.{map-append}

-- one more is passed
pub passed : {A B : Type 0} (f : A → B) (xs : List A) (x : A) (rest whole : List B) → map f xs ++ (f x ∷ rest) ≡ whole
    → map f (xs ++ x ∷ []) ++ rest ≡ whole
passed f xs x rest whole h = rw (map-append f xs (x ∷ []), append_assoc (map f xs) (f x ∷ []) rest) h
