use Rattle.std.proofs.Common.{◌≡◌, ◌++◌, [], Ok, map, drop}
use Rattle.ioa_values.specs.Outcome.{and_then}
use Rattle.ioa_source.specs.TextView.{declaration_of}
use Rattle.ioa_sections.specs.Declarations.{automata_at}
use Rattle.ioa_sections.proofs.declarations.automata_of.Given as goal

-- all automata are those so far and then those of the declarations that are left
abbrev pub invariant-loop-index : goal.invariant-loop-index
invariant-loop-index l =
    automata_at l.types 0 [] (map declaration_of l.declarations.items)
    ≡ and_then (automata_at l.types l.index l.names (map declaration_of (drop l.index l.declarations.items))) (λ cs. Ok (l.automata.items ++ cs))
