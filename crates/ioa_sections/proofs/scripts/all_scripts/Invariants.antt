use Rattle.std.proofs.Common.{◌≡◌, ◌++◌, map, drop}
use Rattle.ioa_source.specs.TextView.{placement_of}
use Rattle.ioa_sections.specs.Sections.{script_behind, scripts_in}
use Rattle.ioa_sections.proofs.scripts.all_scripts.Given as goal

-- the scripts so far, and those that are left
abbrev pub invariant-loop-placement : goal.invariant-loop-placement
invariant-loop-placement l =
    map script_behind l.scripts.items ++ scripts_in (map placement_of (drop l.placement-index l.placement-items)) ≡ scripts_in (map placement_of l.placements.items)
