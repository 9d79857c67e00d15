-- Each half of a tree of items weighs less than the tree (form).
use Rattle.std.specs.Prelude.{◌≤◌, max}
use Rattle.std.proofs.Common.{arith}
use Rattle.ioa_values.specs.Trees.{tree_items, IsTree}
use Rattle.ioa_values.specs.Weight.{weights}
use Rattle.ioa_values.specs.WeightSums.{weights-append, some-weigh}
use Rattle.ioa_values.specs.declared.tree.TreeForm.{TreeForm}
use Rattle.ioa_values.specs.declared.tree.TreeForm.TheVariants.{Item, Pair}
use Rattle.ioa_values.specs.declared.entry_tree.EntryTree.TheDeep.{deep-TreeForm}

pub deep-le-weights : (t : TreeForm) → IsTree t → max (deep-TreeForm t) 0 ≤ weights (tree_items t)
deep-le-weights (Item d) h = omega arith
deep-le-weights (Pair left right left_len len kind is_link) h =
    omega (arith, weights-append left.value right.value, some-weigh left.value h.left_items.some, some-weigh right.value h.right_items.some)
