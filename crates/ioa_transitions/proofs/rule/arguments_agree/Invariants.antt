use Rattle.std.proofs.Common.{◌≡◌, [], length, map, drop}
use Rattle.ioa_source.specs.TextView.{parameter_of}
use Rattle.ioa_system.specs.InView.{declared_names, entry_constant, given_bindings, names_at}
use Rattle.ioa_system.specs.ResolvedPrograms.{AreResolvedParameters}
use Rattle.ioa_transitions.specs.NodeAnswers as spec
use Rattle.ioa_transitions.proofs.rule.arguments_agree.Given as goal

-- what is left to compare decides
abbrev pub invariant-loop-i : goal.invariant-loop-i
invariant-loop-i l = record {
  resolved : AreResolvedParameters (names_at entry_constant (declared_names l.program.automaton) [])
      (map parameter_of (drop l.i l.parameters));
  many : length l.parameters ≡ length l.arguments;
  same : spec.arguments_agree (given_bindings l.program.automaton l.program.arguments)
      (map parameter_of (drop l.i l.parameters)) (drop l.i l.arguments)
      ≡ spec.arguments_agree (given_bindings l.program.automaton l.program.arguments)
      (map parameter_of l.parameters) l.arguments;
}
