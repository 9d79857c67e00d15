use Rattle.std.proofs.Common.{◌≡◌, ◌++◌, map, drop}
use Rattle.ioa_source.specs.TextView.{placement_of}
use Rattle.ioa_front.specs.Spelling.{joined_spelling, placement_spelling}
use Rattle.ioa_front.proofs.texts.put_placements.Given as goal

-- what is put so far and the nodes, channels and scripts that are left are all of them
abbrev pub invariant-loop-placement : goal.invariant-loop-placement
invariant-loop-placement l =
    l.out ++ joined_spelling placement_spelling (map placement_of (drop l.placement-index l.placements)) ≡ l.initial.out ++ joined_spelling placement_spelling (map placement_of l.placements)
