use Rattle.std.proofs.Common.{◌≡◌, ◌+◌, length}
use Rattle.ioa_paper.specs.Papers.{and_text}
use Rattle.ioa_show.specs.Marks.{dots}
use Rattle.ioa_show.proofs.dots.put_dots.Given as goal

-- the position counts the entries that are passed; what is written so far, and then the dots that are left
abbrev pub invariant-loop-entry : goal.invariant-loop-entry
invariant-loop-entry g l =
    (l.position + length l.entry-iterator ≡ length l.schedule)
    × (and_text l.paper (dots l.frame l.names l.position l.entry-iterator)
    ≡ and_text l.initial.paper (dots l.frame l.names 0 l.schedule))
