use Rattle.std.proofs.Common.{◌≡◌, ◌≤◌, ◌++◌, length, take, drop}
use Rattle.ioa_book.specs.Slots.{places_at}
use Rattle.ioa_book.proofs.reading.read_again.Given as goal

-- the places that are read again, and then what is left to read
abbrev pub invariant-loop-position : goal.invariant-loop-position
invariant-loop-position g l = (l.position ≤ length l.places.items) × (take l.position l.places.items ++ places_at (drop l.position l.slots) l.held ≡ places_at l.slots l.held)
