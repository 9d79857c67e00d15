-- Lists of items that sequences and their trees have (form).
use Rattle.std.specs.Prelude.{◌^◌, ◌<◌, List, [], ◌∷◌, length, Option, Some, None}
use Rattle.std.specs.declared.alloc.Global.{Global}
use Rattle.std.specs.declared.sync.Arc.{Arc}
use Rattle.ioa_values.specs.Canonical.{AllCanonical}
use Rattle.ioa_values.specs.Data.{Data}

-- a list without its first item, if it has one
abbrev pub without_one : List Data → List Data
without_one [] = []
without_one (d ∷ ds) = ds

-- the items of a tree: at least one, and each of them canonical
pub record AreItems (ds : List Data) : Type 0 where
  pub some : 0 < length ds
  pub canonical : AllCanonical ds

-- the items of a sequence: no more than a slice has, and each of them canonical
pub record AreSequenceItems (ds : List Data) : Type 0 where
  pub within : length ds < 2 ^ 63
  pub canonical : AllCanonical ds

-- the items of a chain of trees, if there is one
abbrev pub items_in : Option (Arc (List Data) Global) → List Data
items_in None = []
items_in (Some chain) = chain.value
