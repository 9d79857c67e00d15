use Rattle.std.proofs.Common.{◌≡◌, ◌++◌, Ok, map, drop}
use Rattle.ioa_values.specs.Outcome.{and_then}
use Rattle.ioa_source.specs.TextView.{variable_of}
use Rattle.ioa_automata.specs.Parts.{variables_at}
use Rattle.ioa_automata.proofs.parts.sort_variables.Given as goal

-- all are those so far and then those that are left
abbrev pub invariant-loop-variable : goal.invariant-loop-variable
invariant-loop-variable l =
    variables_at l.types l.view (map variable_of l.variables.items)
    ≡ and_then (variables_at l.types l.view (map variable_of (drop l.variable-index l.variable-items))) (λ xs. Ok (map variable_of l.sorted.items ++ xs))
