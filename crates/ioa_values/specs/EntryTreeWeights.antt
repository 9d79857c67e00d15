-- Each part of a tree of entries weighs less than the tree (form).
use Rattle.std.specs.Prelude.{◌≤◌, ℕ, [], ◌∷◌, Option, Some, None}
use Rattle.std.specs.declared.alloc.Global.{Global}
use Rattle.std.specs.declared.sync.Arc.{Arc}
use Rattle.std.proofs.Common.{arith}
use Rattle.ioa_values.specs.Data.{Data}
use Rattle.ioa_values.specs.EntryTrees.{EntriesAndHeight, around}
use Rattle.ioa_values.specs.Weight.{pairs_weight}
use Rattle.ioa_values.specs.WeightSums.{pairs-weight-append}
use Rattle.ioa_values.specs.declared.entry_tree.EntryTree.TheDeep.{deep-EntryTree}

pub deep-le-tree : (left : Option (Arc EntriesAndHeight Global)) (entry : Arc (Data × Data) Global) (right : Option (Arc EntriesAndHeight Global)) (len height : ℕ) →
    deep-EntryTree (record { left = left; entry = entry; right = right; len = len; height = height })
    ≤ pairs_weight (around left entry.value right)
deep-le-tree None e None len height = omega arith
deep-le-tree (Some l) e None len height = omega (arith, pairs-weight-append l.value.0 (e.value ∷ []))
deep-le-tree None e (Some r) len height = omega arith
deep-le-tree (Some l) e (Some r) len height = omega (arith, pairs-weight-append l.value.0 (e.value ∷ r.value.0))
