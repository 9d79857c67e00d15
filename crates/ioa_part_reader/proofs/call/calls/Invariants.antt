use Rattle.std.proofs.Common.{◌≡◌, ◌-◌, map}
use Rattle.ioa_tokens.specs.declared.mark.Mark.TheVariants as mark
use Rattle.ioa_source.specs.TextView.{call_of}
use Rattle.ioa_cursor.specs.Reading.{collect, skip}
use Rattle.ioa_part_reader.specs.Reading.{call, calls}
use Rattle.ioa_part_reader.proofs.call.calls.Given as goal

abbrev pub invariant-loop-turn : goal.invariant-loop-turn
invariant-loop-turn l = collect (skip mark.Comma) call (l._turn-end - l._turn) (map call_of l.calls.items) l.tokens ≡ calls l.fn.tokens
