-- What a finite set and a finite map keep, whose entries are in a tree (form).
use Rattle.std.specs.Prelude.{◌≡◌, ◌^◌, ◌<◌, List, true, length}
use Rattle.std.specs.List.{AllByRecursion}
use Rattle.ioa_values.specs.Data.{Data, truth}
use Rattle.ioa_values.specs.Canonical.{AllEntriesCanonical}
use Rattle.ioa_values.specs.Collections.{IsAscending, keys_of, values_of}
use Rattle.ioa_values.specs.ItemKinds.{AreOfKind}
use Rattle.ioa_values.specs.declared.item_kind.ItemKind.{ItemKind}

-- an entry of which only the key counts
abbrev pub IsUnit : Data × Data → Type 0
IsUnit e = e.1 ≡ truth true

-- the entries of a map: no more than a slice has, with canonical keys and values, and with keys that ascend
pub record AreMapEntries (es : List (Data × Data)) : Type 0 where
  pub within : length es < 2 ^ 63
  pub canonical : AllEntriesCanonical es
  pub ascending : IsAscending (keys_of es)

-- the entries of a set: those of a map, of which only the keys count
pub record AreSetEntries (es : List (Data × Data)) : Type 0 where
  pub entries : AreMapEntries es
  pub units : AllByRecursion IsUnit es

-- the entries of a map, with what is known of all keys and of all values
pub record IsMap (es : List (Data × Data)) (key_kind value_kind : ItemKind) : Type 0 where
  pub entries : AreMapEntries es
  pub keys : AreOfKind key_kind (keys_of es)
  pub values : AreOfKind value_kind (values_of es)

-- the entries of a set, with what is known of all members
pub record IsSet (es : List (Data × Data)) (kind : ItemKind) : Type 0 where
  pub entries : AreSetEntries es
  pub keys : AreOfKind kind (keys_of es)
