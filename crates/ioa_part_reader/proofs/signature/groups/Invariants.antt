use Rattle.std.proofs.Common.{◌≡◌, ◌-◌, map}
use Rattle.ioa_source.specs.TextView.{entry_of}
use Rattle.ioa_cursor.specs.Reading.{collect_lists, begins_with}
use Rattle.ioa_part_reader.specs.Reading.{at_kind, group, groups}
use Rattle.ioa_part_reader.proofs.signature.groups.Given as goal

abbrev pub invariant-loop-turn : goal.invariant-loop-turn
invariant-loop-turn l = collect_lists (begins_with at_kind) (group) (l._turn-end - l._turn) (map entry_of l.entries.items) l.tokens ≡ groups l.fn.tokens
