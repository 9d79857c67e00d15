use Rattle.std.proofs.Common.{◌≡◌, map, take}
use Rattle.ioa_compose.specs.Composition.{component_names}
use Rattle.ioa_verdicts.specs.Readers.{readers_from}
use Rattle.ioa_verdicts.proofs.readers.readers.Given as goal

-- the readers of the components gone by
abbrev pub invariant-loop-conf : goal.invariant-loop-conf
invariant-loop-conf l =
    map (λ is. is.items) l.noted.items ≡ map (λ k. readers_from k 0 l.invariants) (component_names (take l.conf-index l.confs))
