use Rattle.std.proofs.Common.{rules, sym, ◌∙◌}
use Rattle.std.proofs.lemmas.List.{map_push}
use Rattle.std.proofs.lemmas.Result.{err_from_is_err_and}
use Rattle.ioa_tokens.specs.declared.mark.Mark.TheVariants as mark
use Rattle.ioa_cursor.specs.Reading.{bind, skip}
use Rattle.ioa_cursor.proofs.Exits.{none_of_part}
use Rattle.ioa_cursor.proofs.Lists.{collected_more, collected_done, collected_none, collected_all}
use Rattle.ioa_source.specs.Heights.{height_limit}
use Rattle.ioa_term_reader.specs.Reading.{read}
use Rattle.ioa_term_reader.proofs.Turns.{climb_more, climb_none, climb_done, climb_all, read_deeper, some_same}
use Rattle.ioa_term_reader.proofs.OtherMarks.{marked_other}
use Rattle.ioa_term_reader.proofs.reading.+terms.Goals as goal

pub climb-returns-in-None : goal.climb-returns-in-None
climb-returns-in-None t c = sym c.loop-turn.invariant ∙ climb_done (read c.args.bounds.depth) height_limit _ _ _ _ _ _ c.loop-turn-test.true c.in-None.ensures

pub climb-returns-in_err-left-in-Some : goal.climb-returns-in_err-left-in-Some
climb-returns-in_err-left-in-Some t c =
    let p = err_from_is_err_and c.from_residual.result c.from_residual.ensures.1 in
    rw (p.1, p.2)
    (none_of_part
    (λ n. sym c.loop-turn.invariant ∙ climb_none (read c.args.bounds.depth) height_limit _ _ _ _ _ _ _ _ c.loop-turn-test.true c.in-Some.ensures c.advance.ensures n)
    c.in_err-left-in-Some.ensures)

pub climb-loop-turn-preserved : goal.climb-loop-turn-preserved
climb-loop-turn-preserved t c =
    rw c.level_of-most.ensures
    (sym (climb_more (read c.args.bounds.depth) height_limit _ _ _ _ _ _ _ _ _ _ c.loop-turn-test.true c.in-Some.ensures c.advance.ensures c.in_ok-left-in-Some.ensures)
    ∙ c.loop-turn.invariant)

pub climb-returns : goal.climb-returns
climb-returns t c = sym c.loop-turn.invariant ∙ climb_all (read c.args.bounds.depth) height_limit _ _ _ _ _ _ c.loop-turn-test.false

pub read-returns : goal.read-returns
unfolding bind
read-returns t c = rw (read_deeper c.args.bounds.depth c.args.bounds.room c.args.bounds.least c.args.tokens.now c.if-bounds-eq0.false) (search rules)

pub marked_term-returns-in_default : goal.marked_term-returns-in_default
marked_term-returns-in_default t c =
    let other = c.in_default in
    rw (marked_other (read c.args.bounds.depth) c.args.bounds.room c.args.bounds.least c.args.mark c.args.tokens.now other.not-True other.not-False other.not-OpenRound other.not-OpenBrace other.not-OpenSquare)
    c.operator_term.ensures

pub terms_in-returns-then-not-skip : goal.terms_in-returns-then-not-skip
terms_in-returns-then-not-skip t c =
    sym c.loop-turn.invariant ∙ collected_done (skip mark.Comma) (read c.args.bounds.depth c.args.bounds.room 1) _ _ _ _ _ c.loop-turn-test.true (sym c.if-not-skip.ensures)

pub terms_in-returns-in_err-next : goal.terms_in-returns-in_err-next
terms_in-returns-in_err-next t c =
    let p = err_from_is_err_and c.from_residual-in_err-next.result c.from_residual-in_err-next.ensures.1 in
    rw (p.1, p.2)
    (none_of_part
    (λ n. sym c.loop-turn.invariant ∙ collected_none (skip mark.Comma) (read c.args.bounds.depth c.args.bounds.room 1) _ _ _ _ _ c.loop-turn-test.true (sym c.if-not-skip.ensures) n)
    c.in_err-next.ensures)

pub terms_in-loop-turn-preserved : goal.terms_in-loop-turn-preserved
terms_in-loop-turn-preserved t c =
    rw (sym (some_same c.in_ok-terms-2.ensures), map_push)
    (sym (collected_more (skip mark.Comma) (read c.args.bounds.depth c.args.bounds.room 1) _ _ _ _ _ _ _ c.loop-turn-test.true (sym c.if-not-skip.ensures) c.in_ok-next.ensures)
    ∙ c.loop-turn.invariant)

pub terms_in-returns : goal.terms_in-returns
terms_in-returns t c = sym c.loop-turn.invariant ∙ collected_all (skip mark.Comma) (read c.args.bounds.depth c.args.bounds.room 1) _ _ _ _ c.loop-turn-test.false
