-- The values of the language, whatever memory the code keeps them in.
use Rattle.std.specs.Prelude.{ℕ, ℤ, pos, negsuc, ◌^◌, nat_lt, Bool, true, List, [], ◌∷◌, Option, Some, None}

-- a value (profile): a whole number without bound, a truth value, a constant as its index among the text's constants,
-- a tuple, a sequence, a finite set as its members in ascending order, or a finite map as its entries in ascending
-- order of keys
mutual
  pub data Data : Type 0 where
    number : ℤ → Data
    truth : Bool → Data
    constant : ℕ → Data
    tuple : Items → Data
    sequence : Items → Data
    finite_set : Items → Data
    finite_map : Entries → Data

  -- values one after another
  pub data Items : Type 0 where
    no_items : Items
    item : Data → Items → Items

  -- pairs of a key and its value, one after another
  pub data Entries : Type 0 where
    no_entries : Entries
    entry : Data → Data → Entries → Entries

-- values one after another, as a list, and back
abbrev pub list_of : Items → List Data
list_of no_items = []
list_of (item d more) = d ∷ list_of more

abbrev pub items_of : List Data → Items
items_of [] = no_items
items_of (d ∷ more) = item d (items_of more)

-- entries, as a list of pairs, and back
abbrev pub pairs_of : Entries → List (Data × Data)
pairs_of no_entries = []
pairs_of (entry k v more) = (k, v) ∷ pairs_of more

abbrev pub entries_of : List (Data × Data) → Entries
entries_of [] = no_entries
entries_of (p ∷ more) = entry p.0 p.1 (entries_of more)

-- the number, if the value is a number
abbrev pub as_number : Data → Option ℤ
as_number (number z) = Some z
as_number (truth b) = None
as_number (constant k) = None
as_number (tuple ds) = None
as_number (sequence ds) = None
as_number (finite_set ds) = None
as_number (finite_map es) = None

-- the truth value, if the value is one
abbrev pub as_truth : Data → Option Bool
as_truth (number z) = None
as_truth (truth b) = Some b
as_truth (constant k) = None
as_truth (tuple ds) = None
as_truth (sequence ds) = None
as_truth (finite_set ds) = None
as_truth (finite_map es) = None

-- whether a number lies in 64 bits, from -9223372036854775808 to 9223372036854775807 (profile)
abbrev pub fits : ℤ → Bool
fits (pos n) = nat_lt n (2 ^ 63)
fits (negsuc n) = nat_lt n (2 ^ 63)

-- whether a value is a number in that range, or no number
abbrev pub is_within : Data → Bool
is_within (number z) = fits z
is_within (truth b) = true
is_within (constant k) = true
is_within (tuple ds) = true
is_within (sequence ds) = true
is_within (finite_set ds) = true
is_within (finite_map es) = true
