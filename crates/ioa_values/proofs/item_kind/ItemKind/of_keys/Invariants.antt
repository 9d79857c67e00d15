use Rattle.std.proofs.Common.{take}
use Rattle.ioa_values.specs.Collections.{keys_of}
use Rattle.ioa_values.specs.ItemKinds.{AreOfKind}
use Rattle.ioa_values.proofs.item_kind.ItemKind.of_keys.Given as goal

-- the keys gone by are of the kind
abbrev pub invariant-loop-key : goal.invariant-loop-key
invariant-loop-key l = AreOfKind l.kind (keys_of (take l.key-index l.entries.items))
