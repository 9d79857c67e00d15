use Rattle.std.proofs.Common.{sym, ◌∙◌}
use Rattle.std.proofs.lemmas.List.{map-append}
use Rattle.std.proofs.lemmas.Result.{err_from_is_err_and}
use Rattle.ioa_tokens.specs.declared.mark.Mark.TheVariants as mark
use Rattle.ioa_cursor.specs.Reading.{skip}
use Rattle.ioa_cursor.proofs.Exits.{none_of_part}
use Rattle.ioa_cursor.proofs.Lists.{gathered_turn, gathered_done, gathered_none, gathered_all}
use Rattle.ioa_part_reader.specs.Reading.{parameter_group}
use Rattle.ioa_part_reader.proofs.declared.parameters.Goals as goal

pub returns-then-not-skip : goal.returns-then-not-skip
returns-then-not-skip c =
    sym c.loop-turn.invariant ∙ gathered_done (skip mark.Comma) (parameter_group c.args.room) _ _ _ _ _ c.loop-turn-test.true (sym c.if-not-skip.ensures)

pub returns-in_err-more : goal.returns-in_err-more
returns-in_err-more c =
    let p = err_from_is_err_and c.from_residual-in_err-more.result c.from_residual-in_err-more.ensures.1 in
    rw (p.1, p.2)
    (none_of_part
    (λ n. sym c.loop-turn.invariant ∙ gathered_none (skip mark.Comma) (parameter_group c.args.room) _ _ _ _ _ c.loop-turn-test.true (sym c.if-not-skip.ensures) n)
    c.in_err-more.ensures)

pub loop-turn-preserved : goal.loop-turn-preserved
loop-turn-preserved c =
    rw (c.in_ok-append.ensures.items, map-append)
    (sym (gathered_turn (skip mark.Comma) (parameter_group c.args.room) _ _ _ _ _ _ _ c.loop-turn-test.true (sym c.if-not-skip.ensures) c.in_ok-more.ensures)
    ∙ c.loop-turn.invariant)

pub returns : goal.returns
returns c = sym c.loop-turn.invariant ∙ gathered_all (skip mark.Comma) (parameter_group c.args.room) _ _ _ _ c.loop-turn-test.false
