use Rattle.std.proofs.Common.{◌≡◌, ◌+◌, length}
use Rattle.ioa_paper.specs.Papers.{and_text}
use Rattle.ioa_show.specs.Sequences.{entry_lines}
use Rattle.ioa_show.proofs.sequence.put_entries.Given as goal

-- the position counts the entries that are passed; what is written so far, and then the lines that are left
abbrev pub invariant-loop-entry : goal.invariant-loop-entry
invariant-loop-entry g l =
    (l.position + length l.entry-iterator ≡ length l.schedule)
    × (and_text l.paper (entry_lines l.names l.partners l.position l.entry-iterator)
    ≡ and_text l.initial.paper (entry_lines l.names l.partners 0 l.schedule))
