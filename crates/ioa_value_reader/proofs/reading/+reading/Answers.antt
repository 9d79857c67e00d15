use Rattle.std.proofs.Common.{◌≡◌, ◌∙◌, sym, ap, arith}
use Rattle.std.proofs.lemmas.Result.{err_from_is_err_and}
use Rattle.ioa_tokens.specs.declared.mark.Mark.TheVariants as mark
use Rattle.ioa_cursor.specs.Reading.{skip}
use Rattle.ioa_cursor.proofs.Exits.{none_of_part}
use Rattle.ioa_cursor.proofs.Lists.{collected_more, collected_done, collected_none, collected_all}
use Rattle.ioa_operators.specs.Shapes.{shapes_of}
use Rattle.ioa_operators.specs.ShapeHeight.{heights}
use Rattle.ioa_value_reader.specs.Reading.{read_value, read_entry}
use Rattle.ioa_value_reader.proofs.Parts.{part_height, no_comma, no_part, one_part, all_parts}
use Rattle.ioa_value_reader.proofs.reading.+reading.Goals as goal

-- items

pub read_more_items-returns-then-not-skip : goal.read_more_items-returns-then-not-skip
read_more_items-returns-then-not-skip t c =
    sym c.loop-turn.invariant ∙ collected_done (skip mark.Comma) (read_value c.args.names.now c.args.shape.now) _ _ _ _ _ c.loop-turn-test.true (sym c.if-not-skip.ensures)

pub read_more_items-returns-in_err-next : goal.read_more_items-returns-in_err-next
read_more_items-returns-in_err-next t c =
    let p = err_from_is_err_and c.from_residual-in_err-next.result c.from_residual-in_err-next.ensures.1 in
    rw (p.1, p.2)
    (none_of_part
    (λ n. sym c.loop-turn.invariant ∙ collected_none (skip mark.Comma) (read_value c.args.names.now c.args.shape.now) _ _ _ _ _ c.loop-turn-test.true (sym c.if-not-skip.ensures) n)
    c.in_err-next.ensures)

pub read_more_items-loop-turn-preserved : goal.read_more_items-loop-turn-preserved
read_more_items-loop-turn-preserved t c =
    rw c.in_ok-push-2.ensures.items
    (sym (collected_more (skip mark.Comma) (read_value c.args.names.now c.args.shape.now) _ _ _ _ _ _ _ c.loop-turn-test.true (sym c.if-not-skip.ensures) c.in_ok-next.ensures)
    ∙ c.loop-turn.invariant)

pub read_more_items-returns : goal.read_more_items-returns
read_more_items-returns t c =
    sym c.loop-turn.invariant ∙ collected_all (skip mark.Comma) (read_value c.args.names.now c.args.shape.now) _ _ _ _ c.loop-turn-test.false

-- entries

pub read_more_entries-returns-then-not-skip : goal.read_more_entries-returns-then-not-skip
read_more_entries-returns-then-not-skip t c =
    sym c.loop-turn.invariant
    ∙ collected_done (skip mark.Comma) (read_entry (read_value c.args.names.now c.args.keys.now) (read_value c.args.names.now c.args.values.now)) _ _ _ _ _ c.loop-turn-test.true (sym c.if-not-skip.ensures)

pub read_more_entries-returns-in_err-next : goal.read_more_entries-returns-in_err-next
read_more_entries-returns-in_err-next t c =
    let p = err_from_is_err_and c.from_residual-in_err-next.result c.from_residual-in_err-next.ensures.1 in
    rw (p.1, p.2)
    (none_of_part
    (λ n. sym c.loop-turn.invariant
    ∙ collected_none (skip mark.Comma) (read_entry (read_value c.args.names.now c.args.keys.now) (read_value c.args.names.now c.args.values.now)) _ _ _ _ _ c.loop-turn-test.true (sym c.if-not-skip.ensures) n)
    c.in_err-next.ensures)

pub read_more_entries-loop-turn-preserved : goal.read_more_entries-loop-turn-preserved
read_more_entries-loop-turn-preserved t c =
    rw c.in_ok-push-2.ensures.items
    (sym (collected_more (skip mark.Comma) (read_entry (read_value c.args.names.now c.args.keys.now) (read_value c.args.names.now c.args.values.now)) _ _ _ _ _ _ _ c.loop-turn-test.true (sym c.if-not-skip.ensures) c.in_ok-next.ensures)
    ∙ c.loop-turn.invariant)

pub read_more_entries-returns : goal.read_more_entries-returns
read_more_entries-returns t c =
    sym c.loop-turn.invariant
    ∙ collected_all (skip mark.Comma) (read_entry (read_value c.args.names.now c.args.keys.now) (read_value c.args.names.now c.args.values.now)) _ _ _ _ c.loop-turn-test.false

-- parts

pub read_parts-returns-in_err-expect_between : goal.read_parts-returns-in_err-expect_between
read_parts-returns-in_err-expect_between t c =
    let p = err_from_is_err_and c.from_residual.result c.from_residual.ensures.1 in
    rw (p.1, p.2)
    (none_of_part
    (λ n. sym c.loop-shape.invariant ∙ no_comma c.args.names.now c.deref-shape-items.result.now c.loop-shape.shape-index c.shape-item.result c.loop-shape-test.true c.shape-item.is c.loop-shape.parts.items _ n)
    c.in_err-expect_between.ensures)

pub read_parts-read-requires : goal.read_parts-read-requires
read_parts-read-requires t c =
    let low = part_height c.deref-shape-items.result.now c.loop-shape.shape-index c.shape-item.result c.loop-shape-test.true c.shape-item.is in
    let same : heights (shapes_of c.deref-shape-items.result.now) ≡ heights (shapes_of c.args.shapes.now.items) = ap (λ ss. heights (shapes_of ss)) c.deref-shape-items.ensures.value in
    (omega (arith, low, same, c.decreases), tt)

pub read_parts-returns-in_err-part : goal.read_parts-returns-in_err-part
read_parts-returns-in_err-part t c =
    let p = err_from_is_err_and c.from_residual-in_err-part.result c.from_residual-in_err-part.ensures.1 in
    rw (p.1, p.2)
    (none_of_part
    (λ n. sym c.loop-shape.invariant ∙ no_part c.args.names.now c.deref-shape-items.result.now c.loop-shape.shape-index c.shape-item.result c.loop-shape-test.true c.shape-item.is c.loop-shape.parts.items _ _ _ c.in_ok-expect_between.ensures n)
    c.in_err-part.ensures)

pub read_parts-loop-shape-preserved : goal.read_parts-loop-shape-preserved
read_parts-loop-shape-preserved t c =
    rw c.in_ok-push.ensures.items
    (sym (one_part c.args.names.now c.deref-shape-items.result.now c.loop-shape.shape-index c.shape-item.result c.loop-shape-test.true c.shape-item.is c.loop-shape.parts.items _ _ _ _ _ c.in_ok-expect_between.ensures c.in_ok-part.ensures)
    ∙ c.loop-shape.invariant)

pub read_parts-returns : goal.read_parts-returns
read_parts-returns t c =
    sym c.loop-shape.invariant ∙ all_parts c.args.names.now c.deref-shape-items.result.now c.loop-shape.shape-index c.loop-shape.parts.items c.loop-shape.tokens c.loop-shape-test.false
