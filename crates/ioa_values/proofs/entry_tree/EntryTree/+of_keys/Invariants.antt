use Rattle.std.proofs.Common.{length}
use Rattle.ioa_values.proofs.entry_tree.EntryTree.+of_keys.Given as goal

-- each half has fewer keys
abbrev pub decreases-of_keys : goal.decreases-of_keys
decreases-of_keys l = length l.keys.now
