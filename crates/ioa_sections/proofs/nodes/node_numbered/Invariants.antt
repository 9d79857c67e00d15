use Rattle.std.proofs.Common.{◌≡◌, map, drop}
use Rattle.std.specs.Prelude.{find}
use Rattle.ioa_sections.specs.Sections.{node_at}
use Rattle.ioa_sections.specs.Nodes.{has_number}
use Rattle.ioa_sections.proofs.nodes.node_numbered.Given as goal

-- no node so far has the number
abbrev pub invariant-loop-node : goal.invariant-loop-node
invariant-loop-node l =
    find (has_number l.number) (map node_at l.nodes) ≡ find (has_number l.number) (map node_at (drop l.node-index l.nodes))
