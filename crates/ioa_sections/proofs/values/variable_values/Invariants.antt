use Rattle.std.proofs.Common.{◌≡◌, ◌++◌, Ok, map, drop, length}
use Rattle.ioa_values.specs.Outcome.{and_then}
use Rattle.ioa_terms.specs.Bindings.{names_of}
use Rattle.ioa_source.specs.TextView.{variable_of}
use Rattle.ioa_system.specs.ResolvedPrograms.{AreResolvedVariables}
use Rattle.ioa_sections.specs.Nodes.{variable_values}
use Rattle.ioa_sections.proofs.values.variable_values.Given as goal

-- all values are those so far and then those of the variables that are left
abbrev pub invariant-loop-variable : goal.invariant-loop-variable
invariant-loop-variable l = record {
  many : length l.values.items ≡ l.variable-index;
  resolved : AreResolvedVariables (names_of l.env) (map variable_of (drop l.variable-index l.variables));
  all : variable_values l.env (map variable_of l.variables)
      ≡ and_then (variable_values l.env (map variable_of (drop l.variable-index l.variables))) (λ vs. Ok (l.values.items ++ vs));
}
