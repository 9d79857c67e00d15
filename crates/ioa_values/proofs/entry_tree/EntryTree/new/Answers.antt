use Rattle.std.proofs.Common.{◌∷◌, arith}
use Rattle.ioa_values.specs.Canonical.{IsCanonicalEntry}
use Rattle.ioa_values.specs.EntryTrees.{entries_in}
use Rattle.ioa_values.proofs.AllOf.{all_appended}
use Rattle.ioa_values.proofs.entry_tree.EntryTree.new.Goals as goal

-- the node is balanced, and keeps what both trees and the entry keep
pub invariant_of-tree : goal.invariant_of-tree
invariant_of-tree c = (
  record {
    counted = omega arith;
    tall = omega arith;
    even = c.requires;
    low = omega arith;
  },
  all_appended IsCanonicalEntry (entries_in c.args.left) (c.args.entry.value ∷ entries_in c.args.right)
      c.tree_law.ensures.canonical (c.entry_law.ensures, c.tree_law-2.ensures.canonical),
)
