use Rattle.std.proofs.Common.{sym, ◌∙◌}
use Rattle.std.proofs.lemmas.Result.{err_from_is_err_and}
use Rattle.ioa_tokens.specs.declared.mark.Mark.TheVariants as mark
use Rattle.ioa_cursor.specs.Reading.{skip, word}
use Rattle.ioa_cursor.proofs.Exits.{none_of_part}
use Rattle.ioa_cursor.proofs.Lists.{collected_more, collected_done, collected_none, collected_all}
use Rattle.ioa_part_reader.proofs.declared.words.Goals as goal

pub returns-then-not-skip : goal.returns-then-not-skip
returns-then-not-skip c =
    sym c.loop-turn.invariant ∙ collected_done (skip mark.Comma) (word) _ _ _ _ _ c.loop-turn-test.true (sym c.if-not-skip.ensures)

pub returns-in_err-word-2 : goal.returns-in_err-word-2
returns-in_err-word-2 c =
    let p = err_from_is_err_and c.from_residual-in_err-word-2.result c.from_residual-in_err-word-2.ensures.1 in
    rw (p.1, p.2)
    (none_of_part
    (λ n. sym c.loop-turn.invariant ∙ collected_none (skip mark.Comma) (word) _ _ _ _ _ c.loop-turn-test.true (sym c.if-not-skip.ensures) n)
    c.in_err-word-2.ensures.reads)

pub loop-turn-preserved : goal.loop-turn-preserved
loop-turn-preserved c =
    rw (c.in_ok-push-2.ensures.items)
    (sym (collected_more (skip mark.Comma) (word) _ _ _ _ _ _ _ c.loop-turn-test.true (sym c.if-not-skip.ensures) c.in_ok-word-2.ensures.reads)
    ∙ c.loop-turn.invariant)

pub returns : goal.returns
returns c = sym c.loop-turn.invariant ∙ collected_all (skip mark.Comma) (word) _ _ _ _ c.loop-turn-test.false
