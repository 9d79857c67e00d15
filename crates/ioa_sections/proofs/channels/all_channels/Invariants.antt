use Rattle.std.proofs.Common.{◌≡◌, ◌++◌, map, drop}
use Rattle.ioa_source.specs.TextView.{placement_of}
use Rattle.ioa_sections.specs.Sections.{channels_in}
use Rattle.ioa_sections.proofs.channels.all_channels.Given as goal

-- the channels so far, and those that are left
abbrev pub invariant-loop-placement : goal.invariant-loop-placement
invariant-loop-placement l =
    l.channels.items ++ channels_in (map placement_of (drop l.placement-index l.placement-items)) ≡ channels_in (map placement_of l.placements.items)
