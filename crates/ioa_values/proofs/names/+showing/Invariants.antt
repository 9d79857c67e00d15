use Rattle.std.proofs.Common.{◌≡◌, ◌++◌, take, string_bytes}
use Rattle.ioa_values.specs.Data.{items_of, entries_of}
use Rattle.ioa_values.specs.Text.{texts, entry_texts, with_commas}
use Rattle.ioa_values.proofs.names.+showing.Given as goal

-- what is written so far are the values gone by
abbrev pub invariant-push_values-loop-position : goal.invariant-push_values-loop-position
invariant-push_values-loop-position l =
    string_bytes l.output ≡ string_bytes l.initial.output ++ with_commas (texts l.names (items_of (take l.position l.values.items)))

-- what is written so far are the items gone by
abbrev pub invariant-push_items-loop-position : goal.invariant-push_items-loop-position
invariant-push_items-loop-position l =
    string_bytes l.output ≡ string_bytes l.initial.output ++ with_commas (texts l.names (items_of (take l.position l.items)))

-- what is written so far are the members gone by
abbrev pub invariant-push_members-loop-position : goal.invariant-push_members-loop-position
invariant-push_members-loop-position l =
    string_bytes l.output ≡ string_bytes l.initial.output ++ with_commas (texts l.names (items_of (take l.position l.members)))

-- what is written so far are the entries gone by
abbrev pub invariant-push_entries-loop-position : goal.invariant-push_entries-loop-position
invariant-push_entries-loop-position l =
    string_bytes l.output ≡ string_bytes l.initial.output ++ with_commas (entry_texts l.names (entries_of (take l.position l.entries)))
