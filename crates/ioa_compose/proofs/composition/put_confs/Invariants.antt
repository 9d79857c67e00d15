use Rattle.std.proofs.Common.{◌≡◌}
use Rattle.ioa_compose.specs.Composition.{put_confs}
use Rattle.ioa_compose.proofs.composition.put_confs.Given as goal

-- the configurations hold what has come so far
abbrev pub invariant-loop-conf : goal.invariant-loop-conf
invariant-loop-conf l = l.confs.items ≡ put_confs l.yielded l.initial.confs.items
