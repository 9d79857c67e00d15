use Rattle.std.proofs.Common.{take}
use Rattle.ioa_runtime_values.specs.RuntimeValues.{AreRuntimeConfs}
use Rattle.ioa_runtime_values.proofs.states.states_values_law.Given as goal

-- the configurations gone by
abbrev pub invariant-loop-state : goal.invariant-loop-state
invariant-loop-state l = AreRuntimeConfs (take l.state-index l.states)
