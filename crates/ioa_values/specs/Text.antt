-- Values as text (profile): numbers are decimal with `-` for negative ones, truth values are `true` and `false`, a
-- constant is its name, a tuple is `[a, b]`, a sequence or a set is `{a, b}`, and a map is `{k -> v, l -> w}`.
use Rattle.std.specs.Prelude.{ℕ, zero, suc, List, [], ◌∷◌, ◌++◌, Bool, true, false, codes, get_or}
use Rattle.std.specs.Fmt.{signed_decimal}
use Rattle.ioa_values.specs.Data.{Data, number, truth, constant, tuple, sequence, finite_set, finite_map}
use Rattle.ioa_values.specs.Data.{Items, no_items, item, Entries, no_entries, entry}

-- texts one after another, with a comma and a space between
abbrev pub with_commas : List (List ℕ) → List ℕ
with_commas [] = []
with_commas (first ∷ []) = first
with_commas (first ∷ (second ∷ more)) = first ++ codes ", " ++ with_commas (second ∷ more)

-- what is written in front of the text at a position: nothing at the first, and else a comma and a space
abbrev pub separator : ℕ → List ℕ
separator zero = []
separator (suc position) = codes ", "

-- the text of a truth value
abbrev pub truth_text : Bool → List ℕ
truth_text true = codes "true"
truth_text false = codes "false"

abbrev mutual
  -- the text of a value, with the constants' names as they are declared; a constant without a name has no text
  pub text : List (List ℕ) → Data → List ℕ
  text names (number z) = signed_decimal z
  text names (truth b) = truth_text b
  text names (constant k) = get_or names k []
  text names (tuple ds) = codes "[" ++ with_commas (texts names ds) ++ codes "]"
  text names (sequence ds) = codes "{" ++ with_commas (texts names ds) ++ codes "}"
  text names (finite_set ds) = codes "{" ++ with_commas (texts names ds) ++ codes "}"
  text names (finite_map es) = codes "{" ++ with_commas (entry_texts names es) ++ codes "}"

  -- the texts of items
  pub texts : List (List ℕ) → Items → List (List ℕ)
  texts names no_items = []
  texts names (item d more) = text names d ∷ texts names more

  -- the texts of entries, each a key, an arrow and its value
  pub entry_texts : List (List ℕ) → Entries → List (List ℕ)
  entry_texts names no_entries = []
  entry_texts names (entry k v more) = (text names k ++ codes " -> " ++ text names v) ∷ entry_texts names more

-- the text of an entry
abbrev pub entry_text : List (List ℕ) → Data × Data → List ℕ
entry_text names e = text names e.0 ++ codes " -> " ++ text names e.1
