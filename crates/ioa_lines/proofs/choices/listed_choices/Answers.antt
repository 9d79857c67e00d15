use Rattle.std.proofs.Common.{◌∙◌, sym}
use Rattle.std.proofs.lemmas.Result.{err_from_is_err_and}
use Rattle.ioa_tokens.specs.declared.mark.Mark.TheVariants as mark
use Rattle.ioa_cursor.specs.Reading.{skip}
use Rattle.ioa_cursor.proofs.Exits.{none_of_part}
use Rattle.ioa_cursor.proofs.Lists.{collected_all, collected_done, collected_more, collected_none}
use Rattle.ioa_lines.specs.Reading.{read_simple}
use Rattle.ioa_lines.proofs.choices.listed_choices.Goals as goal

pub returns-then-not-skip : goal.returns-then-not-skip
returns-then-not-skip c =
    sym c.loop-turn.invariant
    ∙ collected_done (skip mark.Comma) (read_simple c.args.names.now) _ _ _ _ _ c.loop-turn-test.true (sym c.if-not-skip.ensures)

pub returns-in_err-next : goal.returns-in_err-next
returns-in_err-next c =
    let p = err_from_is_err_and c.from_residual-in_err-next.result c.from_residual-in_err-next.ensures.1 in
    rw (p.1, p.2)
    (none_of_part
    (λ n. sym c.loop-turn.invariant
    ∙ collected_none (skip mark.Comma) (read_simple c.args.names.now) _ _ _ _ _ c.loop-turn-test.true (sym c.if-not-skip.ensures) n)
    c.in_err-next.ensures)

pub loop-turn-preserved : goal.loop-turn-preserved
loop-turn-preserved c =
    rw c.in_ok-push-2.ensures.items
    (sym (collected_more (skip mark.Comma) (read_simple c.args.names.now) _ _ _ _ _ _ _ c.loop-turn-test.true (sym c.if-not-skip.ensures) c.in_ok-next.ensures)
    ∙ c.loop-turn.invariant)

pub returns : goal.returns
returns c =
    sym c.loop-turn.invariant
    ∙ collected_all (skip mark.Comma) (read_simple c.args.names.now) _ _ _ _ c.loop-turn-test.false
