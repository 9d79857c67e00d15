use Rattle.std.proofs.Common.{◌≡◌, ◌-◌, map}
use Rattle.ioa_source.specs.TextView.{placement_of}
use Rattle.ioa_cursor.specs.Reading.{collect, begins_with}
use Rattle.ioa_part_reader.specs.Reading.{at_placement, placement, all_placements}
use Rattle.ioa_part_reader.proofs.system.placements.Given as goal

abbrev pub invariant-loop-turn : goal.invariant-loop-turn
invariant-loop-turn l = collect (begins_with at_placement) (placement) (l._turn-end - l._turn) (map placement_of l.placements.items) l.tokens ≡ all_placements l.fn.tokens
