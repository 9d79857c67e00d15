use Rattle.std.proofs.Common.{◌≡◌, ◌+◌, ◌-◌, ◌*◌, map}
use Rattle.ioa_tokens.specs.declared.mark.Mark.TheVariants as mark
use Rattle.ioa_cursor.specs.Reading.{collect, skip}
use Rattle.ioa_terms.specs.View.{term_of}
use Rattle.ioa_source.specs.Heights.{height_limit}
use Rattle.ioa_term_reader.specs.Reading as spec
use Rattle.ioa_term_reader.proofs.reading.+terms.Given as goal

abbrev pub decreases-read : goal.decreases-read
decreases-read l = 8 * l.bounds.depth

abbrev pub decreases-terms_in : goal.decreases-terms_in
decreases-terms_in l = 8 * l.bounds.depth + 1

abbrev pub decreases-extended_term : goal.decreases-extended_term
decreases-extended_term l = 8 * l.bounds.depth + 1

abbrev pub decreases-bracketed_term : goal.decreases-bracketed_term
decreases-bracketed_term l = 8 * l.bounds.depth + 1

abbrev pub decreases-prefixed_term : goal.decreases-prefixed_term
decreases-prefixed_term l = 8 * l.bounds.depth + 1

abbrev pub decreases-climb : goal.decreases-climb
decreases-climb l = 8 * l.bounds.depth + 2

abbrev pub decreases-call_term : goal.decreases-call_term
decreases-call_term l = 8 * l.bounds.depth + 2

abbrev pub decreases-display_term : goal.decreases-display_term
decreases-display_term l = 8 * l.bounds.depth + 2

abbrev pub decreases-braced_term : goal.decreases-braced_term
decreases-braced_term l = 8 * l.bounds.depth + 3

abbrev pub decreases-word_term : goal.decreases-word_term
decreases-word_term l = 8 * l.bounds.depth + 3

abbrev pub decreases-operator_term : goal.decreases-operator_term
decreases-operator_term l = 8 * l.bounds.depth + 2

abbrev pub decreases-marked_term : goal.decreases-marked_term
decreases-marked_term l = 8 * l.bounds.depth + 4

abbrev pub decreases-operand : goal.decreases-operand
decreases-operand l = 8 * l.bounds.depth + 5

abbrev pub invariant-climb-loop-turn : goal.invariant-climb-loop-turn
invariant-climb-loop-turn l =
    spec.climb (spec.read l.bounds.depth) (height_limit - l._turn) l.bounds.room l.bounds.least l.most (term_of l.left.tree) l.tokens
    ≡ spec.climb (spec.read l.fn.bounds.depth) height_limit l.fn.bounds.room l.fn.bounds.least l.fn.first.level (term_of l.fn.first.built.tree) l.fn.tokens

abbrev pub invariant-terms_in-loop-turn : goal.invariant-terms_in-loop-turn
invariant-terms_in-loop-turn l =
    collect (skip mark.Comma) (spec.read l.fn.bounds.depth l.fn.bounds.room 1) (l._turn-end - l._turn) (map term_of l.terms.tree.items) l.tokens
    ≡ spec.terms_in (spec.read l.fn.bounds.depth) l.fn.bounds.room l.fn.tokens
