use Rattle.std.proofs.Common.{◌≡◌, ◌-◌, map}
use Rattle.ioa_tokens.specs.declared.mark.Mark.TheVariants as mark
use Rattle.ioa_terms.specs.View.{term_of}
use Rattle.ioa_cursor.specs.Reading.{collect, skip}
use Rattle.ioa_term_reader.specs.Reading.{term}
use Rattle.ioa_part_reader.specs.Reading.{terms}
use Rattle.ioa_part_reader.proofs.call.terms.Given as goal

abbrev pub invariant-loop-turn : goal.invariant-loop-turn
invariant-loop-turn l = collect (skip mark.Comma) (term 127) (l._turn-end - l._turn) (map term_of l.terms.tree.items) l.tokens ≡ terms l.fn.tokens
