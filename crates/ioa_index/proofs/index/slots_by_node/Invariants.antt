use Rattle.std.proofs.Common.{take}
use Rattle.ioa_index.specs.Indexes.{AreEntries}
use Rattle.ioa_index.proofs.index.slots_by_node.Given as goal

-- the entries are those of the components gone by
abbrev pub invariant-loop-component : goal.invariant-loop-component
invariant-loop-component l = AreEntries l.components (take l.component-index l.components) l.by_node.items
