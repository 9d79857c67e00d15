use Rattle.std.proofs.Common.{sym, ◌∙◌, ◌-◌}
use Rattle.std.proofs.lemmas.List.{map_push}
use Rattle.std.proofs.lemmas.Result.{err_from_is_err_and}
use Rattle.ioa_tokens.specs.declared.mark.Mark.TheVariants as mark
use Rattle.ioa_cursor.specs.Reading.{resumes_with, skip}
use Rattle.ioa_cursor.proofs.Exits.{none_of_part}
use Rattle.ioa_cursor.proofs.Lists.{collected_more, collected_done, collected_none, collected_all}
use Rattle.ioa_part_reader.specs.Reading.{statements_in, one_statement, one_arm, begins_statement}
use Rattle.ioa_term_reader.proofs.Turns.{some_same}
use Rattle.ioa_part_reader.proofs.statement.+statements.Goals as goal

pub all_arms-returns-then-not-skip : goal.all_arms-returns-then-not-skip
all_arms-returns-then-not-skip t c =
    sym c.loop-turn.invariant ∙ collected_done (skip mark.ElseIf) (one_arm (statements_in c.args.context c.args.depth)) _ _ _ _ _ c.loop-turn-test.true (sym c.if-not-skip.ensures)

pub all_arms-returns-in_err-next : goal.all_arms-returns-in_err-next
all_arms-returns-in_err-next t c =
    let p = err_from_is_err_and c.from_residual-in_err-next.result c.from_residual-in_err-next.ensures.1 in
    rw (p.1, p.2)
    (none_of_part
    (λ n. sym c.loop-turn.invariant ∙ collected_none (skip mark.ElseIf) (one_arm (statements_in c.args.context c.args.depth)) _ _ _ _ _ c.loop-turn-test.true (sym c.if-not-skip.ensures) n)
    c.in_err-next.ensures)

pub all_arms-loop-turn-preserved : goal.all_arms-loop-turn-preserved
all_arms-loop-turn-preserved t c =
    rw (sym (some_same c.in_ok-arms-2.ensures), map_push)
    (sym (collected_more (skip mark.ElseIf) (one_arm (statements_in c.args.context c.args.depth)) _ _ _ _ _ _ _ c.loop-turn-test.true (sym c.if-not-skip.ensures) c.in_ok-next.ensures)
    ∙ c.loop-turn.invariant)

pub all_arms-returns : goal.all_arms-returns
all_arms-returns t c = sym c.loop-turn.invariant ∙ collected_all (skip mark.ElseIf) (one_arm (statements_in c.args.context c.args.depth)) _ _ _ _ c.loop-turn-test.false

pub statements_in-returns-then-not-resumes_with_statement : goal.statements_in-returns-then-not-resumes_with_statement
statements_in-returns-then-not-resumes_with_statement t c =
    sym c.loop-turn.invariant
    ∙ collected_done (resumes_with mark.Semicolon (begins_statement c.args.context)) (one_statement (statements_in c.args.context (c.args.depth - 1)) c.args.context) _ _ _ _ _ c.loop-turn-test.true (sym c.if-not-resumes_with_statement.ensures)

pub statements_in-returns-in_err-next : goal.statements_in-returns-in_err-next
statements_in-returns-in_err-next t c =
    let p = err_from_is_err_and c.from_residual-in_err-next.result c.from_residual-in_err-next.ensures.1 in
    rw (p.1, p.2)
    (none_of_part
    (λ n. sym c.loop-turn.invariant
    ∙ collected_none (resumes_with mark.Semicolon (begins_statement c.args.context)) (one_statement (statements_in c.args.context (c.args.depth - 1)) c.args.context) _ _ _ _ _ c.loop-turn-test.true (sym c.if-not-resumes_with_statement.ensures) n)
    c.in_err-next.ensures)

pub statements_in-loop-turn-preserved : goal.statements_in-loop-turn-preserved
statements_in-loop-turn-preserved t c =
    rw (sym (some_same c.in_ok-statements-2.ensures), map_push)
    (sym (collected_more (resumes_with mark.Semicolon (begins_statement c.args.context)) (one_statement (statements_in c.args.context (c.args.depth - 1)) c.args.context) _ _ _ _ _ _ _ c.loop-turn-test.true (sym c.if-not-resumes_with_statement.ensures) c.in_ok-next.ensures)
    ∙ c.loop-turn.invariant)

pub statements_in-returns : goal.statements_in-returns
statements_in-returns t c =
    sym c.loop-turn.invariant
    ∙ collected_all (resumes_with mark.Semicolon (begins_statement c.args.context)) (one_statement (statements_in c.args.context (c.args.depth - 1)) c.args.context) _ _ _ _ c.loop-turn-test.false
