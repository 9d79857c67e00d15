use Rattle.std.proofs.Common.{◌≡◌, length}
use Rattle.ioa_values.specs.Collections.{IsAscending, keys_of, value_at}
use Rattle.ioa_values.specs.EntryTrees.{entries_in}
use Rattle.ioa_values.proofs.entry_tree.value_of.Given as goal

-- the key has the same value in the part of the tree that is left
abbrev pub invariant-loop-part : goal.invariant-loop-part
invariant-loop-part l = record {
  ascending : IsAscending (keys_of (entries_in l.part));
  value : value_at l.key (entries_in l.part) ≡ value_at l.key (entries_in l.tree);
}

abbrev pub decreases-loop-part : goal.decreases-loop-part
decreases-loop-part l = length (entries_in l.part)
