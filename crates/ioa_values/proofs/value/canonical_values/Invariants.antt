use Rattle.std.proofs.Common.{take}
use Rattle.ioa_values.specs.Canonical.{AllCanonical}
use Rattle.ioa_values.proofs.value.canonical_values.Given as goal

-- the values gone by are canonical
abbrev pub invariant-loop-value : goal.invariant-loop-value
invariant-loop-value l = AllCanonical (take l.value-index l.values.items)
