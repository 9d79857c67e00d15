use Rattle.std.proofs.Common.{◌≡◌, ◌-◌, map}
use Rattle.ioa_source.specs.TextView.{transition_of}
use Rattle.ioa_cursor.specs.Reading.{collect, begins_with}
use Rattle.ioa_part_reader.specs.Reading.{at_kind, transition, transitions}
use Rattle.ioa_part_reader.proofs.automaton.transitions.Given as goal

abbrev pub invariant-loop-turn : goal.invariant-loop-turn
invariant-loop-turn l = collect (begins_with at_kind) (transition) (l._turn-end - l._turn) (map transition_of l.transitions.items) l.tokens ≡ transitions l.fn.tokens
