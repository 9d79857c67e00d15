-- What each recursion over values counts down (form): a number that is larger for a value than for each of its parts,
-- also if a sequence is kept as a tree, of which each half holds fewer items.
use Rattle.std.specs.Prelude.{ℕ, ◌+◌, List}
use Rattle.ioa_values.specs.Data.{Data, number, truth, constant, tuple, sequence, finite_set, finite_map, items_of, entries_of}
use Rattle.ioa_values.specs.Data.{Items, no_items, item, Entries, no_entries, entry}

abbrev mutual
  pub weight : Data → ℕ
  weight (number z) = 0
  weight (truth b) = 0
  weight (constant k) = 0
  weight (tuple ds) = items_weight ds + 2
  weight (sequence ds) = items_weight ds + 2
  weight (finite_set ds) = items_weight ds + 2
  weight (finite_map es) = entries_weight es + 2

  pub items_weight : Items → ℕ
  items_weight no_items = 0
  items_weight (item d more) = weight d + 1 + items_weight more

  pub entries_weight : Entries → ℕ
  entries_weight no_entries = 0
  entries_weight (entry k v more) = weight k + weight v + 1 + entries_weight more

-- of the items of a tree, and of a sequence or a set, which has trees in it
abbrev pub weights : List Data → ℕ
weights ds = items_weight (items_of ds)

abbrev pub sequence_weight : List Data → ℕ
sequence_weight ds = weights ds + 1

-- of the entries of a tree, and of a map, which has a tree in it
abbrev pub pairs_weight : List (Data × Data) → ℕ
pairs_weight es = entries_weight (entries_of es)

abbrev pub map_weight : List (Data × Data) → ℕ
map_weight es = pairs_weight es + 1
