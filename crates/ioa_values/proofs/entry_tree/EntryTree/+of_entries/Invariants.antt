use Rattle.std.proofs.Common.{length}
use Rattle.ioa_values.proofs.entry_tree.EntryTree.+of_entries.Given as goal

-- each half has fewer entries
abbrev pub decreases-of_entries : goal.decreases-of_entries
decreases-of_entries l = length l.entries.now
