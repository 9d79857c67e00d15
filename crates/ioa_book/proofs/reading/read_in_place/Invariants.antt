use Rattle.std.proofs.Common.{◌≡◌, ◌++◌, length, take, drop, true}
use Rattle.ioa_book.specs.Slots.{places_at}
use Rattle.ioa_book.proofs.reading.read_in_place.Given as goal

-- there are as many places as slots: those that are read again, and then what is left to read; and if all was there so
-- far, the places are as they were
abbrev pub invariant-loop-position : goal.invariant-loop-position
invariant-loop-position g l = record {
  many : length l.places ≡ length l.slots;
  read : take l.position l.places ++ places_at (drop l.position l.slots) l.held ≡ places_at l.slots l.held;
  same : l.is_same ≡ true → l.places ≡ l.fn.places;
}
