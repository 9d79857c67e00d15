use Rattle.std.proofs.Common.{◌≡◌, ◌++◌, ◌-◌, Ok, map, length}
use Rattle.ioa_values.specs.Outcome.{and_then}
use Rattle.ioa_sections.specs.Sections.{node_at}
use Rattle.ioa_sections.specs.Nodes.{programs_at, programs_from}
use Rattle.ioa_sections.proofs.nodes.programs_of.Given as goal

-- all programs are those so far and then those of the nodes that are left
abbrev pub invariant-loop-position : goal.invariant-loop-position
invariant-loop-position l =
    programs_at l.declared.types.constants l.declared.automata (map node_at l.nodes)
    ≡ and_then (programs_from l.declared.types.constants l.declared.automata (map node_at l.nodes) l.position (length l.nodes - l.position)) (λ ps. Ok (l.programs.items ++ ps))
