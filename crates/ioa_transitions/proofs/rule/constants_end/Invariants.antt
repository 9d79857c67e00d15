use Rattle.std.proofs.Common.{◌≡◌, map, drop}
use Rattle.ioa_source.specs.TextView.{parameter_of}
use Rattle.ioa_transitions.specs.NodeStep.{own_values}
use Rattle.ioa_transitions.proofs.rule.constants_end.Given as goal

-- no value of its own has gone by
abbrev pub invariant-loop-i : goal.invariant-loop-i
invariant-loop-i l =
    own_values (map parameter_of (drop l.i l.parameters)) (drop l.i l.arguments)
    ≡ own_values (map parameter_of (drop l.from l.parameters)) (drop l.from l.arguments)
