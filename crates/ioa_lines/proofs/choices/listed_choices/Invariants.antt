use Rattle.std.proofs.Common.{◌≡◌, ◌-◌, []}
use Rattle.ioa_tokens.specs.declared.mark.Mark.TheVariants as mark
use Rattle.ioa_cursor.specs.Reading.{collect, several_more, skip}
use Rattle.ioa_lines.specs.Reading.{read_simple}
use Rattle.ioa_lines.proofs.choices.listed_choices.Given as goal

-- the values that are left to collect come behind those that were read
abbrev pub invariant-loop-turn : goal.invariant-loop-turn
invariant-loop-turn l =
    collect (skip mark.Comma) (read_simple l.names) (l._turn-end - l._turn) l.values.items l.tokens
    ≡ several_more (skip mark.Comma) (read_simple l.fn.names) [] l.fn.tokens
