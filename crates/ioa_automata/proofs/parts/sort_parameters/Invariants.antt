use Rattle.std.proofs.Common.{◌≡◌, ◌++◌, Ok, map, drop}
use Rattle.ioa_values.specs.Outcome.{and_then}
use Rattle.ioa_source.specs.TextView.{parameter_of}
use Rattle.ioa_automata.specs.Parts.{parameters_at, sorted_parameters}
use Rattle.ioa_automata.proofs.parts.sort_parameters.Given as goal

-- all are those so far and then those that are left
abbrev pub invariant-loop-parameter : goal.invariant-loop-parameter
invariant-loop-parameter l =
    parameters_at l.types l.view (map parameter_of l.parameters.items)
    ≡ and_then (parameters_at l.types l.view (map parameter_of (drop l.parameter-index l.parameter-items))) (λ qs. Ok (sorted_parameters (map parameter_of l.sorted.value.parameters.items ++ qs.parameters) (l.sorted.value.shapes.items ++ qs.shapes)))
