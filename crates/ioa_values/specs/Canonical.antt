-- Values in which every set and every map, at any depth, ascends (profile).
use Rattle.std.specs.Prelude.{List}
use Rattle.std.specs.List.{AllByRecursion}
use Rattle.ioa_values.specs.Data.{Data, number, truth, constant, tuple, sequence, finite_set, finite_map}
use Rattle.ioa_values.specs.Data.{Items, no_items, item, Entries, no_entries, entry, list_of, pairs_of}
use Rattle.ioa_values.specs.Collections.{IsAscending, keys_of}

abbrev mutual
  -- a value: its sets have their members, and its maps their keys, in ascending order without doubles
  pub IsCanonical : Data → Type 0
  IsCanonical (number z) = Unit {0}
  IsCanonical (truth b) = Unit {0}
  IsCanonical (constant k) = Unit {0}
  IsCanonical (tuple ds) = AreCanonical ds
  IsCanonical (sequence ds) = AreCanonical ds
  IsCanonical (finite_set ds) = IsAscending (list_of ds) × AreCanonical ds
  IsCanonical (finite_map es) = IsAscending (keys_of (pairs_of es)) × AreCanonicalEntries es

  -- values one after another
  pub AreCanonical : Items → Type 0
  AreCanonical no_items = Unit {0}
  AreCanonical (item d ds) = IsCanonical d × AreCanonical ds

  -- entries, keys and values
  pub AreCanonicalEntries : Entries → Type 0
  AreCanonicalEntries no_entries = Unit {0}
  AreCanonicalEntries (entry k v es) = (IsCanonical k × IsCanonical v) × AreCanonicalEntries es

-- each value of a list
abbrev pub AllCanonical : List Data → Type 0
AllCanonical ds = AllByRecursion IsCanonical ds

-- an entry, its key and its value, and each entry of a list
abbrev pub IsCanonicalEntry : Data × Data → Type 0
IsCanonicalEntry p = IsCanonical p.0 × IsCanonical p.1

abbrev pub AllEntriesCanonical : List (Data × Data) → Type 0
AllEntriesCanonical es = AllByRecursion IsCanonicalEntry es
