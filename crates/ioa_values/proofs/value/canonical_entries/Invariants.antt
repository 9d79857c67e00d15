use Rattle.std.proofs.Common.{take}
use Rattle.ioa_values.specs.Canonical.{AllEntriesCanonical}
use Rattle.ioa_values.proofs.value.canonical_entries.Given as goal

-- the entries gone by are canonical
abbrev pub invariant-loop-key : goal.invariant-loop-key
invariant-loop-key l = AllEntriesCanonical (take l.key-index l.entries.items)
