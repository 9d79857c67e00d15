-- Trees of entries: what they mean (view), and what each of them keeps (form).
use Rattle.std.specs.Prelude.{◌≡◌, ℕ, ◌+◌, ◌-◌, ◌≤◌, max, List, [], ◌∷◌, ◌++◌, length, Option, Some, None}
use Rattle.std.specs.declared.alloc.Global.{Global}
use Rattle.std.specs.declared.sync.Arc.{Arc}
use Rattle.ioa_values.specs.Data.{Data}

-- the entries of a tree in order, and how many levels it has
abbrev pub EntriesAndHeight : Type 0
EntriesAndHeight = List (Data × Data) × ℕ

-- the entries of a tree, if there is one, and its levels
abbrev pub entries_in : Option (Arc EntriesAndHeight Global) → List (Data × Data)
entries_in None = []
entries_in (Some tree) = tree.value.0

abbrev pub height_in : Option (Arc EntriesAndHeight Global) → ℕ
height_in None = 0
height_in (Some tree) = tree.value.1

-- an entry between the entries of two trees
abbrev pub around : Option (Arc EntriesAndHeight Global) → Data × Data → Option (Arc EntriesAndHeight Global) → List (Data × Data)
around left e right = entries_in left ++ e ∷ entries_in right

-- neither is more than so much above the other
abbrev pub DifferBy : ℕ → ℕ → ℕ → Type 0
DifferBy most m n = (m ≤ n + most) × (n ≤ m + most)

-- the height of a tree that is made of two of these heights, with an entry between them: one more than the greater, but
-- if they differ by two levels it may be the greater itself
abbrev pub IsHeightOver : ℕ → ℕ → ℕ → Type 0
IsHeightOver left right height = (height ≤ max left right + 1) × (max left right + 1 ≤ height + (left - (right + 1)) + (right - (left + 1)))

-- the tree has grown by one level at most, or lost one at most
abbrev pub IsGrown : ℕ → ℕ → Type 0
IsGrown old new = (old ≤ new) × (new ≤ old + 1)

-- the two trees below a node differ by one level at most; the numbers are how many entries and levels the node has
pub record IsBalanced (left right : Option (Arc EntriesAndHeight Global)) (len height : ℕ) : Type 0 where
  pub counted : len ≡ length (entries_in left) + length (entries_in right) + 1
  pub tall : height ≡ max (height_in left) (height_in right) + 1
  pub even : DifferBy 1 (height_in left) (height_in right)
  pub low : height ≤ len

-- keys with the same value each
abbrev pub entries_with : Data → List Data → List (Data × Data)
entries_with v [] = []
entries_with v (k ∷ ks) = (k, v) ∷ entries_with v ks
