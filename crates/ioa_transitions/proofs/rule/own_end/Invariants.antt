use Rattle.std.proofs.Common.{◌≡◌, ◌++◌, map, drop, take}
use Rattle.ioa_source.specs.TextView.{parameter_of}
use Rattle.ioa_transitions.specs.NodeStep.{own_values}
use Rattle.ioa_transitions.proofs.rule.own_end.Given as goal

-- all that have gone by, and those that are left
abbrev pub invariant-loop-i : goal.invariant-loop-i
invariant-loop-i l =
    drop l.from (take l.i l.arguments) ++ own_values (map parameter_of (drop l.i l.parameters)) (drop l.i l.arguments)
    ≡ own_values (map parameter_of (drop l.from l.parameters)) (drop l.from l.arguments)
