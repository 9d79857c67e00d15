-- The tree of a set weighs less than the set, and that of a map less than the map (form).
use Rattle.std.specs.Prelude.{◌≡◌, ◌≤◌, List, [], ◌∷◌, Option, Some, None}
use Rattle.std.specs.List.{AllByRecursion}
use Rattle.std.specs.declared.alloc.Global.{Global}
use Rattle.std.specs.declared.sync.Arc.{Arc}
use Rattle.std.proofs.Common.{arith, ap}
use Rattle.ioa_values.specs.Data.{Data}
use Rattle.ioa_values.specs.Collections.{keys_of}
use Rattle.ioa_values.specs.EntryTrees.{EntriesAndHeight, entries_in}
use Rattle.ioa_values.specs.FiniteSets.{IsUnit, IsSet}
use Rattle.ioa_values.specs.declared.item_kind.ItemKind.{ItemKind}
use Rattle.ioa_values.specs.Weight.{weight, weights, pairs_weight, sequence_weight, map_weight}
use Rattle.ioa_values.specs.declared.entry_tree.EntryTree.TheDeep.{deep-FiniteSet, deep-FiniteMap}

-- an entry of which only the key counts weighs what its key weighs
pub units-weigh : (es : List (Data × Data)) → AllByRecursion IsUnit es → pairs_weight es ≡ weights (keys_of es)
units-weigh [] h = omega arith
units-weigh (e ∷ es) h = let light = ap weight h.0 in omega (arith, units-weigh es h.1)

pub deep-le-set : (root : Option (Arc EntriesAndHeight Global)) (kind : ItemKind) → IsSet (entries_in root) kind →
    deep-FiniteSet (record { root = root; kind = kind }) ≤ sequence_weight (keys_of (entries_in root))
deep-le-set None kind h = omega arith
deep-le-set (Some tree) kind h = omega (arith, units-weigh tree.value.0 h.entries.units)

pub deep-le-map : (root : Option (Arc EntriesAndHeight Global)) (key_kind value_kind : ItemKind) →
    deep-FiniteMap (record { root = root; key_kind = key_kind; value_kind = value_kind }) ≤ map_weight (entries_in root)
deep-le-map None kk vk = omega arith
deep-le-map (Some tree) kk vk = omega arith
