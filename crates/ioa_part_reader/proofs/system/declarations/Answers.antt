use Rattle.std.proofs.Common.{sym, ◌∙◌}
use Rattle.std.proofs.lemmas.List.{map_push}
use Rattle.std.proofs.lemmas.Result.{err_from_is_err_and}
use Rattle.ioa_cursor.specs.Reading.{begins_with}
use Rattle.ioa_cursor.proofs.Exits.{none_of_part}
use Rattle.ioa_cursor.proofs.Lists.{collected_more, collected_done, collected_none, collected_all, begun_is}
use Rattle.ioa_part_reader.specs.Reading.{at_declaration, declaration}
use Rattle.ioa_part_reader.proofs.system.declarations.Goals as goal

pub returns-then-not-at_declaration : goal.returns-then-not-at_declaration
returns-then-not-at_declaration c =
    sym c.loop-turn.invariant ∙ collected_done (begins_with at_declaration) (declaration) _ _ _ _ _ c.loop-turn-test.true (begun_is (at_declaration) _ _ c.if-not-at_declaration.ensures)

pub returns-in_err-declaration : goal.returns-in_err-declaration
returns-in_err-declaration c =
    let p = err_from_is_err_and c.from_residual.result c.from_residual.ensures.1 in
    rw (p.1, p.2)
    (none_of_part
    (λ n. sym c.loop-turn.invariant ∙ collected_none (begins_with at_declaration) (declaration) _ _ _ _ _ c.loop-turn-test.true (begun_is (at_declaration) _ _ c.if-not-at_declaration.ensures) n)
    c.in_err-declaration.ensures)

pub loop-turn-preserved : goal.loop-turn-preserved
loop-turn-preserved c =
    rw (c.in_ok-push.ensures.items, map_push)
    (sym (collected_more (begins_with at_declaration) (declaration) _ _ _ _ _ _ _ c.loop-turn-test.true (begun_is (at_declaration) _ _ c.if-not-at_declaration.ensures) c.in_ok-declaration.ensures)
    ∙ c.loop-turn.invariant)

pub returns : goal.returns
returns c = sym c.loop-turn.invariant ∙ collected_all (begins_with at_declaration) (declaration) _ _ _ _ c.loop-turn-test.false
