use Rattle.std.proofs.Common.{◌≡◌, ◌-◌, map}
use Rattle.ioa_tokens.specs.declared.mark.Mark.TheVariants as mark
use Rattle.ioa_source.specs.TextView.{entry_of}
use Rattle.ioa_cursor.specs.Reading.{collect, at_word, resumes_with}
use Rattle.ioa_part_reader.specs.Reading.{entry, entries}
use Rattle.ioa_part_reader.proofs.signature.entries.Given as goal

abbrev pub invariant-loop-turn : goal.invariant-loop-turn
invariant-loop-turn l = collect (resumes_with mark.Comma at_word) (entry l.kind) (l._turn-end - l._turn) (map entry_of l.entries.items) l.tokens ≡ entries l.kind l.fn.tokens
