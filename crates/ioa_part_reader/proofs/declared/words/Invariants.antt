use Rattle.std.proofs.Common.{◌≡◌, ◌-◌}
use Rattle.ioa_tokens.specs.declared.mark.Mark.TheVariants as mark
use Rattle.ioa_cursor.specs.Reading.{collect, skip, word}
use Rattle.ioa_part_reader.specs.Reading.{words}
use Rattle.ioa_part_reader.proofs.declared.words.Given as goal

abbrev pub invariant-loop-turn : goal.invariant-loop-turn
invariant-loop-turn l = collect (skip mark.Comma) (word) (l._turn-end - l._turn) (l.words.items) l.tokens ≡ words l.fn.tokens
