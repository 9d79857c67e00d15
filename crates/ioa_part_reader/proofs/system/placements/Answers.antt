use Rattle.std.proofs.Common.{sym, ◌∙◌}
use Rattle.std.proofs.lemmas.List.{map_push}
use Rattle.std.proofs.lemmas.Result.{err_from_is_err_and}
use Rattle.ioa_cursor.specs.Reading.{begins_with}
use Rattle.ioa_cursor.proofs.Exits.{none_of_part}
use Rattle.ioa_cursor.proofs.Lists.{collected_more, collected_done, collected_none, collected_all, begun_is}
use Rattle.ioa_part_reader.specs.Reading.{at_placement, placement}
use Rattle.ioa_part_reader.proofs.system.placements.Goals as goal

pub returns-then-not-at_placement : goal.returns-then-not-at_placement
returns-then-not-at_placement c =
    sym c.loop-turn.invariant ∙ collected_done (begins_with at_placement) (placement) _ _ _ _ _ c.loop-turn-test.true (begun_is (at_placement) _ _ c.if-not-at_placement.ensures)

pub returns-in_err-one_placement : goal.returns-in_err-one_placement
returns-in_err-one_placement c =
    let p = err_from_is_err_and c.from_residual.result c.from_residual.ensures.1 in
    rw (p.1, p.2)
    (none_of_part
    (λ n. sym c.loop-turn.invariant ∙ collected_none (begins_with at_placement) (placement) _ _ _ _ _ c.loop-turn-test.true (begun_is (at_placement) _ _ c.if-not-at_placement.ensures) n)
    c.in_err-one_placement.ensures)

pub loop-turn-preserved : goal.loop-turn-preserved
loop-turn-preserved c =
    rw (c.in_ok-push.ensures.items, map_push)
    (sym (collected_more (begins_with at_placement) (placement) _ _ _ _ _ _ _ c.loop-turn-test.true (begun_is (at_placement) _ _ c.if-not-at_placement.ensures) c.in_ok-one_placement.ensures)
    ∙ c.loop-turn.invariant)

pub returns : goal.returns
returns c = sym c.loop-turn.invariant ∙ collected_all (begins_with at_placement) (placement) _ _ _ _ c.loop-turn-test.false
