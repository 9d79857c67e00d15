use Rattle.std.proofs.Common.{◌≡◌, take}
use Rattle.ioa_values.specs.Data.{items_of, entries_of}
use Rattle.ioa_values.specs.Text.{texts, entry_texts, with_commas}
use Rattle.ioa_paper.specs.Papers.{and_text}
use Rattle.ioa_paper.proofs.values.+putting.Given as goal

-- what is written so far are the values gone by
abbrev pub invariant-put_values-loop-position : goal.invariant-put_values-loop-position
invariant-put_values-loop-position g l =
    l.paper ≡ and_text l.initial.paper (with_commas (texts l.names (items_of (take l.position l.values.items))))

-- what is written so far are the items gone by
abbrev pub invariant-put_items-loop-position : goal.invariant-put_items-loop-position
invariant-put_items-loop-position g l =
    l.paper ≡ and_text l.initial.paper (with_commas (texts l.names (items_of (take l.position l.items))))

-- what is written so far are the members gone by
abbrev pub invariant-put_members-loop-position : goal.invariant-put_members-loop-position
invariant-put_members-loop-position g l =
    l.paper ≡ and_text l.initial.paper (with_commas (texts l.names (items_of (take l.position l.members))))

-- what is written so far are the entries gone by
abbrev pub invariant-put_entries-loop-position : goal.invariant-put_entries-loop-position
invariant-put_entries-loop-position g l =
    l.paper ≡ and_text l.initial.paper (with_commas (entry_texts l.names (entries_of (take l.position l.entries))))
