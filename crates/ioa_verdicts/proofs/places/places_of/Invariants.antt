use Rattle.std.proofs.Common.{◌≡◌, map, take}
use Rattle.ioa_verdicts.specs.Places.{place_of}
use Rattle.ioa_verdicts.proofs.places.places_of.Given as goal

-- the places of the names gone by
abbrev pub invariant-loop-name : goal.invariant-loop-name
invariant-loop-name l = l.places.items ≡ map (λ x. place_of x l.course) (take l.name-index l.fn.invariant.readings)
