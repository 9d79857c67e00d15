use Rattle.std.proofs.Common.{◌≡◌, ◌++◌, Ok, map, drop}
use Rattle.ioa_values.specs.Outcome.{and_then}
use Rattle.ioa_terms.specs.View.{term_of}
use Rattle.ioa_automata.specs.Parts.{own_terms}
use Rattle.ioa_automata.proofs.parts.infer_terms.Given as goal

-- all are those so far and then those that are left
abbrev pub invariant-loop-term : goal.invariant-loop-term
invariant-loop-term l =
    own_terms l.view (map term_of l.terms.items)
    ≡ and_then (own_terms l.view (map term_of (drop l.term-index l.term-items))) (λ xs. Ok (map term_of l.sorted.items ++ xs))
