use Rattle.std.proofs.Common.{◌≡◌, drop, take}
use Rattle.ioa_values.specs.Data.{items_of, entries_of}
use Rattle.ioa_values.specs.Text.{with_commas}
use Rattle.ioa_operators.specs.Shapes.{shapes_of}
use Rattle.ioa_paper.specs.Papers.{and_text}
use Rattle.ioa_show.specs.Json.{fields_json, shaped_entries, shaped_jsons}
use Rattle.ioa_show.proofs.shaped_values.+shaping.Given as goal

-- what is written so far, and then the fields that are left
abbrev pub invariant-put_fields-loop-position : goal.invariant-put_fields-loop-position
invariant-put_fields-loop-position g l =
    and_text l.paper (fields_json l.names l.position (items_of (drop l.position l.parts.items)) (drop l.position l.fields.items) (shapes_of (drop l.position l.shapes.items)))
    ≡ and_text l.initial.paper (fields_json l.names 0 (items_of l.parts.items) l.fields.items (shapes_of l.shapes.items))

-- what is written so far are the items gone by
abbrev pub invariant-put_items-loop-position : goal.invariant-put_items-loop-position
invariant-put_items-loop-position g l =
    l.paper ≡ and_text l.initial.paper (with_commas (shaped_jsons l.names l.shape (items_of (take l.position l.items))))

-- what is written so far are the members gone by
abbrev pub invariant-put_members-loop-position : goal.invariant-put_members-loop-position
invariant-put_members-loop-position g l =
    l.paper ≡ and_text l.initial.paper (with_commas (shaped_jsons l.names l.shape (items_of (take l.position l.members))))

-- what is written so far are the entries gone by
abbrev pub invariant-put_entries-loop-position : goal.invariant-put_entries-loop-position
invariant-put_entries-loop-position g l =
    l.paper ≡ and_text l.initial.paper (with_commas (shaped_entries l.names l.keys l.values (entries_of (take l.position l.entries))))
