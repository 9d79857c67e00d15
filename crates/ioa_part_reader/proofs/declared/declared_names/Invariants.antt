use Rattle.std.proofs.Common.{◌≡◌, ◌-◌, map}
use Rattle.ioa_tokens.specs.declared.mark.Mark.TheVariants as mark
use Rattle.ioa_source.specs.TextView.{declared_of}
use Rattle.ioa_cursor.specs.Reading.{collect_lists, skip}
use Rattle.ioa_part_reader.specs.Reading.{declared_group, declared_names}
use Rattle.ioa_part_reader.proofs.declared.declared_names.Given as goal

abbrev pub invariant-loop-turn : goal.invariant-loop-turn
invariant-loop-turn l = collect_lists (skip mark.Comma) (declared_group l.room) (l._turn-end - l._turn) (map declared_of l.declared.items) l.tokens ≡ declared_names l.room l.fn.tokens
