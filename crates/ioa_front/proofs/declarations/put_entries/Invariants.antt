use Rattle.std.proofs.Common.{◌≡◌, ◌++◌, map, drop}
use Rattle.ioa_source.specs.TextView.{entry_of}
use Rattle.ioa_front.specs.Spelling.{joined_spelling, entry_spelling}
use Rattle.ioa_front.proofs.declarations.put_entries.Given as goal

-- what is put so far and the entries that are left are all of them
abbrev pub invariant-loop-entry : goal.invariant-loop-entry
invariant-loop-entry l =
    l.out ++ joined_spelling entry_spelling (map entry_of (drop l.entry-index l.entries)) ≡ l.initial.out ++ joined_spelling entry_spelling (map entry_of l.entries)
