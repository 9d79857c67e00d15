use Rattle.std.proofs.Common.{◌+◌}
use Rattle.ioa_values.specs.EntryTrees.{height_in}
use Rattle.ioa_values.proofs.entry_tree.EntryTree.+joined.Given as goal

-- the higher tree is opened, and one that is lower takes its place
abbrev pub decreases-joined : goal.decreases-joined
decreases-joined l = height_in l.left.now + height_in l.right.now
