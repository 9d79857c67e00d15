use Rattle.std.proofs.Common.{◌≡◌, ◌-◌, map}
use Rattle.ioa_tokens.specs.declared.mark.Mark.TheVariants as mark
use Rattle.ioa_source.specs.TextView.{parameter_of}
use Rattle.ioa_cursor.specs.Reading.{collect_lists, skip}
use Rattle.ioa_part_reader.specs.Reading.{parameter_group, parameters}
use Rattle.ioa_part_reader.proofs.declared.parameters.Given as goal

abbrev pub invariant-loop-turn : goal.invariant-loop-turn
invariant-loop-turn l = collect_lists (skip mark.Comma) (parameter_group l.room) (l._turn-end - l._turn) (map parameter_of l.parameters.items) l.tokens ≡ parameters l.room l.fn.tokens
