use Rattle.std.proofs.Common.{◌≡◌}
use Rattle.ioa_commits.specs.Versions.{read_confs}
use Rattle.ioa_compose.specs.Composition.{find_conf}
use Rattle.ioa_reasons.proofs.shown.conf_of.Given as goal

-- the component is none of those gone by
abbrev pub invariant-loop-read : goal.invariant-loop-read
invariant-loop-read g l =
    find_conf l.component (read_confs l.read-iterator) ≡ find_conf l.component (read_confs l.look.reads)
