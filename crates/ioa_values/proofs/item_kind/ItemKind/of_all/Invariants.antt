use Rattle.std.proofs.Common.{take}
use Rattle.ioa_values.specs.ItemKinds.{AreOfKind}
use Rattle.ioa_values.proofs.item_kind.ItemKind.of_all.Given as goal

-- the values gone by are of the kind
abbrev pub invariant-loop-value : goal.invariant-loop-value
invariant-loop-value l = AreOfKind l.kind (take l.value-index l.values.items)
