use Rattle.std.proofs.Common.{◌≡◌, ◌+◌, ◌-◌, ◌*◌, map}
use Rattle.ioa_tokens.specs.declared.mark.Mark.TheVariants as mark
use Rattle.ioa_cursor.specs.Reading.{collect, resumes_with, skip}
use Rattle.ioa_terms.specs.View.{statement_of, arm_of}
use Rattle.ioa_part_reader.specs.Reading as spec
use Rattle.ioa_part_reader.proofs.statement.+statements.Given as goal

abbrev pub decreases-statements_in : goal.decreases-statements_in
decreases-statements_in l = 7 * l.depth

abbrev pub decreases-rest_of : goal.decreases-rest_of
decreases-rest_of l = 7 * l.depth + 1

abbrev pub decreases-one_arm : goal.decreases-one_arm
decreases-one_arm l = 7 * l.depth + 1

abbrev pub decreases-all_arms : goal.decreases-all_arms
decreases-all_arms l = 7 * l.depth + 2

abbrev pub decreases-choice : goal.decreases-choice
decreases-choice l = 7 * l.depth + 3

abbrev pub decreases-one_statement : goal.decreases-one_statement
decreases-one_statement l = 7 * l.depth + 6

abbrev pub decreases-repetition : goal.decreases-repetition
decreases-repetition l = 7 * l.depth + 1

abbrev pub decreases-block_statement : goal.decreases-block_statement
decreases-block_statement l = 7 * l.depth + 4

abbrev pub decreases-other_statement : goal.decreases-other_statement
decreases-other_statement l = 7 * l.depth + 5

abbrev pub invariant-all_arms-loop-turn : goal.invariant-all_arms-loop-turn
invariant-all_arms-loop-turn l =
    collect (skip mark.ElseIf) (spec.one_arm (spec.statements_in l.context l.depth)) (l._turn-end - l._turn) (map arm_of l.arms.tree.items) l.tokens
    ≡ spec.all_arms (spec.statements_in l.fn.context l.fn.depth) l.fn.tokens

abbrev pub invariant-statements_in-loop-turn : goal.invariant-statements_in-loop-turn
invariant-statements_in-loop-turn l =
    collect (resumes_with mark.Semicolon (spec.begins_statement l.context)) (spec.one_statement (spec.statements_in l.context (l.depth - 1)) l.context) (l._turn-end - l._turn)
    (map statement_of l.statements.tree.items) l.tokens
    ≡ spec.statements_in l.fn.context l.fn.depth l.fn.tokens
