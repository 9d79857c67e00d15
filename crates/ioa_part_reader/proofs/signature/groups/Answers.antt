use Rattle.std.proofs.Common.{sym, ◌∙◌}
use Rattle.std.proofs.lemmas.List.{map-append}
use Rattle.std.proofs.lemmas.Result.{err_from_is_err_and}
use Rattle.ioa_cursor.specs.Reading.{begins_with}
use Rattle.ioa_cursor.proofs.Exits.{none_of_part}
use Rattle.ioa_cursor.proofs.Lists.{gathered_turn, gathered_done, gathered_none, gathered_all, begun_is}
use Rattle.ioa_part_reader.specs.Reading.{at_kind, group}
use Rattle.ioa_part_reader.proofs.signature.groups.Goals as goal

pub returns-then-not-at_kind : goal.returns-then-not-at_kind
returns-then-not-at_kind c =
    sym c.loop-turn.invariant ∙ gathered_done (begins_with at_kind) (group) _ _ _ _ _ c.loop-turn-test.true (begun_is at_kind _ _ c.if-not-at_kind.ensures)

pub returns-in_err-more : goal.returns-in_err-more
returns-in_err-more c =
    let p = err_from_is_err_and c.from_residual.result c.from_residual.ensures.1 in
    rw (p.1, p.2)
    (none_of_part
    (λ n. sym c.loop-turn.invariant ∙ gathered_none (begins_with at_kind) (group) _ _ _ _ _ c.loop-turn-test.true (begun_is at_kind _ _ c.if-not-at_kind.ensures) n)
    c.in_err-more.ensures)

pub loop-turn-preserved : goal.loop-turn-preserved
loop-turn-preserved c =
    rw (c.in_ok-append.ensures.items, map-append)
    (sym (gathered_turn (begins_with at_kind) (group) _ _ _ _ _ _ _ c.loop-turn-test.true (begun_is at_kind _ _ c.if-not-at_kind.ensures) c.in_ok-more.ensures)
    ∙ c.loop-turn.invariant)

pub returns : goal.returns
returns c = sym c.loop-turn.invariant ∙ gathered_all (begins_with at_kind) (group) _ _ _ _ c.loop-turn-test.false
