use Rattle.std.proofs.Common.{◌≡◌, ◌++◌, Ok, map, drop}
use Rattle.ioa_values.specs.Outcome.{and_then}
use Rattle.ioa_source.specs.TextView.{declared_of}
use Rattle.ioa_automata.specs.Parts.{all_declared_at}
use Rattle.ioa_automata.proofs.parts.sort_all_declared.Given as goal

-- all are those so far and then those that are left
abbrev pub invariant-loop-declared : goal.invariant-loop-declared
invariant-loop-declared l =
    all_declared_at l.types (map declared_of l.all.items)
    ≡ and_then (all_declared_at l.types (map declared_of (drop l.declared-index l.declared-items))) (λ xs. Ok (map declared_of l.sorted.items ++ xs))
