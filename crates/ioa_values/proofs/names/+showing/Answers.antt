use Rattle.std.proofs.Common.{string_bytes, sym, arith, ap, ◌∙◌, ◌++◌, ℕ, List}
use Rattle.std.proofs.lemmas.Option.{get_or_from_slice_get}
use Rattle.ioa_values.specs.Text.{text}
use Rattle.ioa_values.proofs.Commas.{values_more, entries_more}
use Rattle.ioa_values.proofs.Falls.{item_falls, entry_falls}
use Rattle.ioa_values.proofs.names.+showing.Goals as goal

pub push_values-loop-position-preserved : goal.push_values-loop-position-preserved
push_values-loop-position-preserved t c =
    values_more c.args.names.now (string_bytes c.args.output.now) c.args.values.now.items c.loop-position.position c.value-item.result
    c.loop-position.invariant c.in_ok-push_separator.ensures c.in_ok-push_value.ensures (omega arith) (cc c.value-item.is)

pub push_items-push_value-requires : goal.push_items-push_value-requires
push_items-push_value-requires t c =
    let fall = item_falls c.args.items.now c.loop-position.position c.at.result.now c.at.ensures in
    grind (arith, fall)

pub push_items-loop-position-preserved : goal.push_items-loop-position-preserved
push_items-loop-position-preserved t c =
    values_more c.args.names.now (string_bytes c.args.output.now) c.args.items.now c.loop-position.position c.at.result.now
    c.loop-position.invariant c.in_ok-push_separator.ensures c.in_ok-push_value.ensures (omega arith)
    (sym (get_or_from_slice_get c.args.items.now c.loop-position.position c.at.result.now c.at.result.now c.at.ensures))

pub push_members-push_value-requires : goal.push_members-push_value-requires
push_members-push_value-requires t c =
    let fall = item_falls c.args.members.now c.loop-position.position c.at.result.now c.at.ensures in
    grind (arith, fall)

pub push_members-loop-position-preserved : goal.push_members-loop-position-preserved
push_members-loop-position-preserved t c =
    values_more c.args.names.now (string_bytes c.args.output.now) c.args.members.now c.loop-position.position c.at.result.now
    c.loop-position.invariant c.in_ok-push_separator.ensures c.in_ok-push_value.ensures (omega arith)
    (sym (get_or_from_slice_get c.args.members.now c.loop-position.position c.at.result.now c.at.result.now c.at.ensures))

pub push_entries-push_value-requires : goal.push_entries-push_value-requires
push_entries-push_value-requires t c =
    let fall = entry_falls c.args.entries.now c.loop-position.position (c.at.result.0.now, c.at.result.1.now) c.at.ensures in
    grind (arith, fall)

pub push_entries-push_value-requires-in-loop-position : goal.push_entries-push_value-requires-in-loop-position
push_entries-push_value-requires-in-loop-position t c =
    let fall = entry_falls c.args.entries.now c.loop-position.position (c.at.result.0.now, c.at.result.1.now) c.at.ensures in
    grind (arith, fall)

pub push_entries-loop-position-preserved : goal.push_entries-loop-position-preserved
push_entries-loop-position-preserved t c =
    entries_more c.args.names.now (string_bytes c.args.output.now) c.args.entries.now c.loop-position.position (c.at.result.0.now, c.at.result.1.now)
    c.loop-position.invariant c.in_ok-push_separator.ensures c.in_ok-push_value.ensures
    (c.in_ok-push_value-2.ensures ∙ ap (λ (x : List ℕ). x ++ text c.args.names.now c.at.result.1.now) c.in_ok-push_str.ensures.bytes)
    (omega arith)
    (sym (get_or_from_slice_get c.args.entries.now c.loop-position.position _ _ c.at.ensures))
