use Rattle.std.proofs.Common.{◌≡◌, map, drop}
use Rattle.ioa_terms.specs.Bindings.{names_of}
use Rattle.ioa_source.specs.TextView.{parameter_of}
use Rattle.ioa_system.specs.ResolvedPrograms.{AreResolvedParameters}
use Rattle.ioa_sections.specs.Nodes.{constants_at}
use Rattle.ioa_sections.proofs.values.check_constants.Given as goal

-- the parameters that are left decide
abbrev pub invariant-loop-parameter : goal.invariant-loop-parameter
invariant-loop-parameter l = record {
  resolved : AreResolvedParameters (names_of l.env) (map parameter_of (drop l.parameter-index l.parameter-items));
  all : constants_at l.env (map parameter_of l.parameters.items) ≡ constants_at l.env (map parameter_of (drop l.parameter-index l.parameter-items));
}
