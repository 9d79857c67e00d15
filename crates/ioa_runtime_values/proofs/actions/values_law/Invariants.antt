use Rattle.std.proofs.Common.{take}
use Rattle.ioa_runtime_values.specs.RuntimeValues.{AreRuntimeValues}
use Rattle.ioa_runtime_values.proofs.actions.values_law.Given as goal

-- the values gone by
abbrev pub invariant-loop-value : goal.invariant-loop-value
invariant-loop-value l = AreRuntimeValues (take l.value-index l.values)
