use Rattle.std.proofs.Common.{◌≡◌, ◌+◌, length, map}
use Rattle.ioa_paper.specs.Papers.{and_text}
use Rattle.ioa_show.specs.Arrows.{arrows}
use Rattle.ioa_show.proofs.arrows.put_messages.Given as goal

-- the position counts the entries that are passed; what is written so far, and then the messages that are left
abbrev pub invariant-loop-entry : goal.invariant-loop-entry
invariant-loop-entry g l =
    (l.position + length l.entry-iterator ≡ length l.schedule)
    × (and_text l.paper (arrows l.frame l.names (map (λ e. e.now) l.entries) l.partners l.position l.entry-iterator)
    ≡ and_text l.initial.paper (arrows l.frame l.names (map (λ e. e.now) l.entries) l.partners 0 l.schedule))
