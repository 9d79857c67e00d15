use Rattle.std.proofs.Common.{◌≡◌, ◌++◌, map, drop}
use Rattle.ioa_source.specs.TextView.{parameter_of}
use Rattle.ioa_transitions.specs.NodeStep.{own_values}
use Rattle.ioa_reasons.proofs.falsified.own_values.Given as goal

-- the values so far, and those that are left
abbrev pub invariant-loop-i : goal.invariant-loop-i
invariant-loop-i l =
    l.values.items ++ own_values (map parameter_of (drop l.i l.entry.parameters.items)) (drop l.i l.arguments)
    ≡ own_values (map parameter_of l.entry.parameters.items) l.arguments
