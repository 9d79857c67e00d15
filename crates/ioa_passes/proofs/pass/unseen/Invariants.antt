use Rattle.std.proofs.Common.{◌≡◌, ◌++◌, drop, map}
use Rattle.ioa_compose.specs.Composition.{component_names}
use Rattle.ioa_passes.specs.Passes.{unseen}
use Rattle.ioa_passes.proofs.pass.unseen.Given as goal

-- the components so far, and then those that are left
abbrev pub invariant-loop-conf : goal.invariant-loop-conf
invariant-loop-conf l =
    l.seen.items ++ map unseen (component_names (drop l.conf-index l.confs)) ≡ map unseen (component_names l.confs)
