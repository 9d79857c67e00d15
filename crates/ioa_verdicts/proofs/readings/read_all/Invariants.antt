use Rattle.std.proofs.Common.{◌≡◌, ◌++◌, List, drop}
use Rattle.std.specs.Option.{option_map}
use Rattle.ioa_values.specs.Data.{Data}
use Rattle.ioa_verdicts.specs.Places.{readings_at}
use Rattle.ioa_verdicts.proofs.readings.read_all.Given as goal

-- the values so far, and what is read at the places that are left
abbrev pub invariant-loop-place : goal.invariant-loop-place
invariant-loop-place l =
    option_map (λ (vs : List Data). l.values.items ++ vs) (readings_at (drop l.place-index l.places) l.confs) ≡ readings_at l.places l.confs
