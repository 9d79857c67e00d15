use Rattle.std.proofs.Common.{◌≡◌, map, take}
use Rattle.ioa_verdicts.specs.Places.{places_of}
use Rattle.ioa_verdicts.proofs.places.all_places.Given as goal

-- the places of the invariants gone by
abbrev pub invariant-loop-invariant : goal.invariant-loop-invariant
invariant-loop-invariant l =
    map (λ ps. ps.items) l.all.items ≡ map (λ v. places_of v l.course) (take l.invariant-index l.invariants)
