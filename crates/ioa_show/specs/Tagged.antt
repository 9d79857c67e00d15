-- Values as the lines of steps have them, which is JSON (form): a number and a truth value are as they are, and all
-- others are objects that say their sort: `{"const":"a"}`, `{"tuple":[a, b]}`, `{"seq":[a, b]}`, `{"set":[a, b]}`, and
-- `{"map":[[k, v], [l, w]]}`.
use Rattle.std.specs.Prelude.{ℕ, List, [], ◌∷◌, ◌++◌, codes, get_or}
use Rattle.std.specs.Fmt.{signed_decimal}
use Rattle.ioa_values.specs.Data.{Data, number, truth, constant, tuple, sequence, finite_set, finite_map}
use Rattle.ioa_values.specs.Data.{Items, no_items, item, Entries, no_entries, entry}
use Rattle.ioa_values.specs.Text.{truth_text, with_commas}

abbrev mutual
  -- a value, with the constants' names as they are declared; a constant without a name has the empty one
  pub tagged : List (List ℕ) → Data → List ℕ
  tagged names (number z) = signed_decimal z
  tagged names (truth b) = truth_text b
  tagged names (constant k) = codes "{\"const\":\"" ++ (get_or names k [] ++ codes "\"}")
  tagged names (tuple ds) = codes "{\"tuple\":[" ++ with_commas (tagged_items names ds) ++ codes "]}"
  tagged names (sequence ds) = codes "{\"seq\":[" ++ with_commas (tagged_items names ds) ++ codes "]}"
  tagged names (finite_set ds) = codes "{\"set\":[" ++ with_commas (tagged_items names ds) ++ codes "]}"
  tagged names (finite_map es) = codes "{\"map\":[" ++ with_commas (tagged_entries names es) ++ codes "]}"

  -- items
  pub tagged_items : List (List ℕ) → Items → List (List ℕ)
  tagged_items names no_items = []
  tagged_items names (item d more) = tagged names d ∷ tagged_items names more

  -- entries, each a list of a key and its value
  pub tagged_entries : List (List ℕ) → Entries → List (List ℕ)
  tagged_entries names no_entries = []
  tagged_entries names (entry k v more) =
      (codes "[" ++ (tagged names k ++ (codes ", " ++ (tagged names v ++ codes "]"))))
      ∷ tagged_entries names more

-- an entry
abbrev pub tagged_entry : List (List ℕ) → Data × Data → List ℕ
tagged_entry names e = codes "[" ++ (tagged names e.0 ++ (codes ", " ++ (tagged names e.1 ++ codes "]")))
