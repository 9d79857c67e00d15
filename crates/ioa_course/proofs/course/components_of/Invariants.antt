use Rattle.std.proofs.Common.{◌≡◌, ◌++◌, drop}
use Rattle.ioa_compose.specs.Composition.{component_names}
use Rattle.ioa_course.proofs.course.components_of.Given as goal

-- the components so far, and then those of the configurations that are left
abbrev pub invariant-loop-conf : goal.invariant-loop-conf
invariant-loop-conf l =
    l.components.items ++ component_names (drop l.conf-index l.confs) ≡ component_names l.confs
