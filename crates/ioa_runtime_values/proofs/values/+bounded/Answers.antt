use Rattle.std.proofs.Common.{arith, sym}
use Rattle.std.proofs.lemmas.Option.{get_or_from_slice_get}
use Rattle.ioa_values.proofs.AllOf.{all_more}
use Rattle.ioa_values.proofs.Falls.{item_falls, entry_falls}
use Rattle.ioa_printed_lines.specs.TextSystems.{IsBounded}
use Rattle.ioa_runtime_values.specs.RuntimeValues.{IsBoundedEntry}
use Rattle.ioa_runtime_values.proofs.values.+bounded.Goals as goal

pub bounded_items-bounded_law-requires : goal.bounded_items-bounded_law-requires
bounded_items-bounded_law-requires t c =
    let fall = item_falls c.args.items.now c.loop-position.position c.at.result.now c.at.ensures in
    grind (arith, fall)

pub bounded_items-loop-position-preserved : goal.bounded_items-loop-position-preserved
bounded_items-loop-position-preserved t c =
    all_more IsBounded c.args.items.now c.loop-position.position c.at.result.now c.loop-position.invariant c.bounded_law.ensures (omega arith)
    (sym (get_or_from_slice_get c.args.items.now c.loop-position.position c.at.result.now c.at.result.now c.at.ensures))

pub bounded_members-bounded_law-requires : goal.bounded_members-bounded_law-requires
bounded_members-bounded_law-requires t c =
    let fall = item_falls c.args.members.now c.loop-position.position c.at.result.now c.at.ensures in
    grind (arith, fall)

pub bounded_members-loop-position-preserved : goal.bounded_members-loop-position-preserved
bounded_members-loop-position-preserved t c =
    all_more IsBounded c.args.members.now c.loop-position.position c.at.result.now c.loop-position.invariant c.bounded_law.ensures (omega arith)
    (sym (get_or_from_slice_get c.args.members.now c.loop-position.position c.at.result.now c.at.result.now c.at.ensures))

pub bounded_entries-bounded_law-requires : goal.bounded_entries-bounded_law-requires
bounded_entries-bounded_law-requires t c =
    let fall = entry_falls c.args.entries.now c.loop-position.position (c.at.result.0.now, c.at.result.1.now) c.at.ensures in
    grind (arith, fall)

pub bounded_entries-bounded_law-requires-in-loop-position : goal.bounded_entries-bounded_law-requires-in-loop-position
bounded_entries-bounded_law-requires-in-loop-position t c =
    let fall = entry_falls c.args.entries.now c.loop-position.position (c.at.result.0.now, c.at.result.1.now) c.at.ensures in
    grind (arith, fall)

pub bounded_entries-loop-position-preserved : goal.bounded_entries-loop-position-preserved
bounded_entries-loop-position-preserved t c =
    all_more IsBoundedEntry c.args.entries.now c.loop-position.position (c.at.result.0.now, c.at.result.1.now) c.loop-position.invariant
    (c.bounded_law.ensures, c.bounded_law-in-loop-position.ensures) (omega arith)
    (sym (get_or_from_slice_get c.args.entries.now c.loop-position.position _ _ c.at.ensures))
