use Rattle.std.proofs.Common.{arith, sym}
use Rattle.std.proofs.lemmas.Option.{get_or_from_slice_get}
use Rattle.ioa_values.proofs.Falls.{item_falls, entry_falls}
use Rattle.ioa_show.proofs.Shapings.{values_more, entries_more}
use Rattle.ioa_show.proofs.shaped_values.+shaping.Goals as goal

pub put_items-put_shaped-requires : goal.put_items-put_shaped-requires
put_items-put_shaped-requires g t c κs within =
    let fall = item_falls c.args.items.now c.loop-position.position c.at.result.now c.at.ensures in
    grind (arith, fall)

pub put_items-loop-position-preserved : goal.put_items-loop-position-preserved
put_items-loop-position-preserved g t c =
    values_more c.args.names.now c.args.shape.now c.args.paper.now c.loop-position.paper c.put_separator.new.paper c.put_shaped.new.paper
    c.args.items.now c.loop-position.position c.at.result.now c.loop-position.invariant
    c.put_separator.ensures c.put_shaped.ensures (omega arith)
    (sym (get_or_from_slice_get c.args.items.now c.loop-position.position c.at.result.now c.at.result.now c.at.ensures))

pub put_members-put_shaped-requires : goal.put_members-put_shaped-requires
put_members-put_shaped-requires g t c κs within =
    let fall = item_falls c.args.members.now c.loop-position.position c.at.result.now c.at.ensures in
    grind (arith, fall)

pub put_members-loop-position-preserved : goal.put_members-loop-position-preserved
put_members-loop-position-preserved g t c =
    values_more c.args.names.now c.args.shape.now c.args.paper.now c.loop-position.paper c.put_separator.new.paper c.put_shaped.new.paper
    c.args.members.now c.loop-position.position c.at.result.now c.loop-position.invariant
    c.put_separator.ensures c.put_shaped.ensures (omega arith)
    (sym (get_or_from_slice_get c.args.members.now c.loop-position.position c.at.result.now c.at.result.now c.at.ensures))

pub put_entries-put_shaped-requires : goal.put_entries-put_shaped-requires
put_entries-put_shaped-requires g t c κs within =
    let fall = entry_falls c.args.entries.now c.loop-position.position (c.at.result.0.now, c.at.result.1.now) c.at.ensures in
    grind (arith, fall)

pub put_entries-put_shaped-requires-in-loop-position : goal.put_entries-put_shaped-requires-in-loop-position
put_entries-put_shaped-requires-in-loop-position g t c κs within =
    let fall = entry_falls c.args.entries.now c.loop-position.position (c.at.result.0.now, c.at.result.1.now) c.at.ensures in
    grind (arith, fall)

pub put_entries-loop-position-preserved : goal.put_entries-loop-position-preserved
put_entries-loop-position-preserved g t c =
    entries_more c.args.names.now c.args.keys.now c.args.values.now c.args.paper.now c.loop-position.paper c.put_separator.new.paper c.put.new.self
    c.put_shaped.new.paper c.put-in-loop-position.new.self c.put_shaped-in-loop-position.new.paper
    c.put-in-loop-position-2.new.self c.args.entries.now c.loop-position.position
    (c.at.result.0.now, c.at.result.1.now) c.loop-position.invariant c.put_separator.ensures c.put.ensures c.put_shaped.ensures
    c.put-in-loop-position.ensures c.put_shaped-in-loop-position.ensures c.put-in-loop-position-2.ensures (omega arith)
    (sym (get_or_from_slice_get c.args.entries.now c.loop-position.position _ _ c.at.ensures))
