use Rattle.std.proofs.Common.{◌≡◌, map, drop}
use Rattle.ioa_source.specs.TextView.{parameter_of}
use Rattle.ioa_transitions.specs.NodeAnswers as spec
use Rattle.ioa_transitions.proofs.rule.pass_naturals.Given as goal

-- what is left to look at decides
abbrev pub invariant-loop-i : goal.invariant-loop-i
invariant-loop-i l =
    spec.are_natural (map parameter_of (drop l.i l.parameters)) (drop l.i l.arguments)
    ≡ spec.are_natural (map parameter_of l.parameters) l.arguments
