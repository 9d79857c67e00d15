use Rattle.std.proofs.Common.{◌≡◌, ◌++◌, Ok, map, drop}
use Rattle.ioa_values.specs.Outcome.{and_then}
use Rattle.ioa_source.specs.TextView.{entry_of}
use Rattle.ioa_automata.specs.SortedView.{surroundings_of, transitions_of}
use Rattle.ioa_automata.specs.Rules.{rules_at}
use Rattle.ioa_automata.proofs.rules.rules_in_view.Given as goal

-- all are those so far and then those that are left
abbrev pub invariant-loop-entry : goal.invariant-loop-entry
invariant-loop-entry l =
    rules_at (surroundings_of l.around) (transitions_of l.transitions) (map entry_of l.entries.items)
    ≡ and_then (rules_at (surroundings_of l.around) (transitions_of l.transitions) (map entry_of (drop l.entry-index l.entry-items))) (λ xs. Ok (l.rules.items ++ xs))
