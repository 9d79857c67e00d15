use Rattle.std.proofs.Common.{◌≡◌, ◌-◌, map}
use Rattle.ioa_tokens.specs.declared.mark.Mark.TheVariants as mark
use Rattle.ioa_source.specs.TextView.{invariant_of}
use Rattle.ioa_cursor.specs.Reading.{collect, begins_with, at}
use Rattle.ioa_part_reader.specs.Reading.{invariant, all_invariants}
use Rattle.ioa_part_reader.proofs.system.invariants.Given as goal

abbrev pub invariant-loop-turn : goal.invariant-loop-turn
invariant-loop-turn l = collect (begins_with (at mark.Invariant)) (invariant) (l._turn-end - l._turn) (map invariant_of l.invariants.items) l.tokens ≡ all_invariants l.fn.tokens
