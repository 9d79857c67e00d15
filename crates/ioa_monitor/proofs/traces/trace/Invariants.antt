use Rattle.std.proofs.Common.{◌≡◌, ◌++◌}
use Rattle.ioa_monitor.specs.Traces.{trace_of}
use Rattle.ioa_monitor.proofs.traces.trace.Given as goal

-- what is kept so far, and then the trace of what is left
abbrev pub invariant-loop-entry : goal.invariant-loop-entry
invariant-loop-entry l =
    l.external.items ++ trace_of l.system l.entry-iterator ≡ trace_of l.system l.run_record.schedule
