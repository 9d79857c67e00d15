use Rattle.std.proofs.Common.{◌≡◌, ◌++◌}
use Rattle.std.specs.List.{repeat}
use Rattle.ioa_place.proofs.picture.push_times.Given as goal

-- the text was added so many times
abbrev pub invariant-loop-turn : goal.invariant-loop-turn
invariant-loop-turn l = l.page.items ≡ l.initial.page.items ++ repeat l._turn l.initial.mark
