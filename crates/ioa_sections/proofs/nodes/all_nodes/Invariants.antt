use Rattle.std.proofs.Common.{◌≡◌, ◌++◌, map, drop}
use Rattle.ioa_source.specs.TextView.{placement_of}
use Rattle.ioa_sections.specs.Sections.{node_at, nodes_in}
use Rattle.ioa_sections.proofs.nodes.all_nodes.Given as goal

-- the nodes so far, and those that are left
abbrev pub invariant-loop-placement : goal.invariant-loop-placement
invariant-loop-placement l =
    map node_at l.nodes.items ++ nodes_in (map placement_of (drop l.placement-index l.placement-items)) ≡ nodes_in (map placement_of l.placements.items)
