-- Finite sets and finite maps (profile), as lists in ascending order of values without doubles.
use Rattle.std.specs.Prelude.{◌≡◌, Bool, List, [], ◌∷◌, Option, Some, None}
use Rattle.std.specs.List.{list_any, AllByRecursion}
use Rattle.std.specs.declared.cmp.Ordering.{Ordering}
use Rattle.std.specs.declared.cmp.Ordering.TheVariants.{Less, Equal, Greater}
use Rattle.ioa_values.specs.Data.{Data}
use Rattle.ioa_values.specs.DataOrder.{same, data_cmp}

-- one of three, by how two values compare
abbrev pub by_order : {X : Type 0} → Ordering → X → X → X → X
by_order Less less equal greater = less
by_order Equal less equal greater = equal
by_order Greater less equal greater = greater

-- each item comes before all the items behind it
abbrev pub IsAscending : List Data → Type 0
IsAscending [] = Unit {0}
IsAscending (x ∷ xs) = AllByRecursion (λ y. data_cmp x y ≡ Less) xs × IsAscending xs

-- whether a value is a member
abbrev pub is_member : Data → List Data → Bool
is_member d xs = list_any (same d) xs

-- the set with one more member
abbrev pub with_member : Data → List Data → List Data
with_member d [] = d ∷ []
with_member d (x ∷ xs) = by_order (data_cmp d x) (d ∷ x ∷ xs) (x ∷ xs) (x ∷ with_member d xs)

-- the set without a member
abbrev pub without_member : Data → List Data → List Data
without_member d [] = []
without_member d (x ∷ xs) = by_order (data_cmp d x) (x ∷ xs) xs (x ∷ without_member d xs)

-- the set of the values of a list
abbrev pub set_of : List Data → List Data
set_of [] = []
set_of (d ∷ ds) = with_member d (set_of ds)

-- the members of either of two sets
abbrev pub union : List Data → List Data → List Data
union [] ys = ys
union (x ∷ xs) ys = with_member x (union xs ys)

-- the keys of a map
abbrev pub keys_of : List (Data × Data) → List Data
keys_of [] = []
keys_of (p ∷ more) = p.0 ∷ keys_of more

-- the values of a map
abbrev pub values_of : List (Data × Data) → List Data
values_of [] = []
values_of (p ∷ more) = p.1 ∷ values_of more

-- the value at a key, if the map has the key
abbrev pub value_at : Data → List (Data × Data) → Option Data
value_at k [] = None
value_at k (p ∷ more) = by_order (data_cmp k p.0) None (Some p.1) (value_at k more)

-- the map in which a key has a value
abbrev pub with_entry : Data → Data → List (Data × Data) → List (Data × Data)
with_entry k v [] = (k, v) ∷ []
with_entry k v (p ∷ more) = by_order (data_cmp k p.0) ((k, v) ∷ p ∷ more) ((k, v) ∷ more) (p ∷ with_entry k v more)

-- the map without a key
abbrev pub without_key : Data → List (Data × Data) → List (Data × Data)
without_key k [] = []
without_key k (p ∷ more) = by_order (data_cmp k p.0) (p ∷ more) more (p ∷ without_key k more)
