use Rattle.std.proofs.Common.{◌≡◌, length}
use Rattle.ioa_book.specs.Slots.{those_there}
use Rattle.ioa_book.proofs.reads.ReadsIterator.next.Given as goal

-- what there is stays as it was: the places gone past are blank
abbrev pub invariant-loop-first : goal.invariant-loop-first
invariant-loop-first g l = those_there l.self-inside.places.now ≡ l.fn.self

abbrev pub decreases-loop-first : goal.decreases-loop-first
decreases-loop-first g l = length l.self-inside.places.now
