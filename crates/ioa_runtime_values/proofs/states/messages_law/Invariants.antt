use Rattle.std.proofs.Common.{take}
use Rattle.ioa_runtime_values.specs.RuntimeValues.{AreRuntimeValues}
use Rattle.ioa_runtime_values.proofs.states.messages_law.Given as goal

-- the messages gone by
abbrev pub invariant-loop-position : goal.invariant-loop-position
invariant-loop-position l = AreRuntimeValues (take l.position l.messages)
