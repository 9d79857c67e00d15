use Rattle.std.proofs.Common.{◌≡◌, ◌-◌, map}
use Rattle.ioa_tokens.specs.declared.mark.Mark.TheVariants as mark
use Rattle.ioa_source.specs.TextView.{variable_of}
use Rattle.ioa_cursor.specs.Reading.{collect, skip}
use Rattle.ioa_part_reader.specs.Reading.{variable, variables}
use Rattle.ioa_part_reader.proofs.automaton.variables.Given as goal

abbrev pub invariant-loop-turn : goal.invariant-loop-turn
invariant-loop-turn l = collect (skip mark.Comma) (variable) (l._turn-end - l._turn) (map variable_of l.variables.items) l.tokens ≡ variables l.fn.tokens
