use Rattle.std.specs.List.{AllByRecursion}
use Rattle.ioa_runtime_values.specs.RuntimeValues.{HasRuntimeValues}
use Rattle.ioa_runtime_values.proofs.actions.schedule_values_law.Given as goal

-- if those that are left have such values, all have
abbrev pub invariant-loop-entry : goal.invariant-loop-entry
invariant-loop-entry l = AllByRecursion HasRuntimeValues l.entry-iterator → AllByRecursion HasRuntimeValues l.schedule
