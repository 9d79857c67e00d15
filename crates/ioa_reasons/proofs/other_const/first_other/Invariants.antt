use Rattle.std.proofs.Common.{◌≡◌, ◌+◌, [], map, drop}
use Rattle.ioa_source.specs.TextView.{parameter_of}
use Rattle.ioa_system.specs.InView.{declared_names, entry_constant, given_bindings, names_at}
use Rattle.ioa_system.specs.ResolvedPrograms.{AreResolvedParameters}
use Rattle.ioa_reasons.specs.OtherConsts as spec
use Rattle.ioa_reasons.proofs.other_const.first_other.Given as goal

-- each argument gone by is its `const`, or has none
abbrev pub invariant-loop-i : goal.invariant-loop-i
invariant-loop-i l = record {
  resolved : AreResolvedParameters (names_at entry_constant (declared_names l.program.automaton) [])
      (map parameter_of (drop l.i l.parameters));
  same : spec.first_other (given_bindings l.program.automaton l.program.arguments) (l.i + 1)
      (map parameter_of (drop l.i l.parameters)) (drop l.i l.arguments)
      ≡ spec.first_other (given_bindings l.program.automaton l.program.arguments) 1
      (map parameter_of l.parameters) l.arguments;
}
