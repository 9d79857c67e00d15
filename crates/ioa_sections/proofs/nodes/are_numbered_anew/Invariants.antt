use Rattle.std.proofs.Common.{◌≡◌, [], map, take, drop}
use Rattle.ioa_sections.specs.Sections.{node_at}
use Rattle.ioa_sections.specs.Distinct.{differ_from}
use Rattle.ioa_sections.specs.Nodes.{same_number}
use Rattle.ioa_sections.proofs.nodes.are_numbered_anew.Given as goal

-- the nodes that are left decide
abbrev pub invariant-loop-position : goal.invariant-loop-position
invariant-loop-position l =
    differ_from same_number [] (map node_at l.nodes) ≡ differ_from same_number (map node_at (take l.position l.nodes)) (map node_at (drop l.position l.nodes))
