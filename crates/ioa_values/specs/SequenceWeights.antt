-- The trees of a sequence weigh less than the sequence (form).
use Rattle.std.specs.Prelude.{◌≤◌, ◌++◌, List, Option, Some, None}
use Rattle.std.specs.declared.alloc.Global.{Global}
use Rattle.std.specs.declared.sync.Arc.{Arc}
use Rattle.std.proofs.Common.{arith}
use Rattle.ioa_values.specs.Data.{Data}
use Rattle.ioa_values.specs.ItemLists.{items_in}
use Rattle.ioa_values.specs.Weight.{sequence_weight}
use Rattle.ioa_values.specs.WeightSums.{weights-append}
use Rattle.ioa_values.specs.declared.entry_tree.EntryTree.TheDeep.{deep-Sequence}

pub deep-le-sequence : (front back : Option (Arc (List Data) Global)) →
    deep-Sequence (record { front = front; back = back }) ≤ sequence_weight (items_in front ++ items_in back)
deep-le-sequence None None = omega arith
deep-le-sequence (Some f) None = omega (arith, weights-append f.value (items_in None))
deep-le-sequence None (Some b) = omega arith
deep-le-sequence (Some f) (Some b) = omega (arith, weights-append f.value b.value)
