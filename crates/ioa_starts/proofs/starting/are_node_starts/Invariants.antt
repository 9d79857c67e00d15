use Rattle.std.proofs.Common.{◌≡◌, drop, map}
use Rattle.std.specs.Arc.{arc_value}
use lib.Pointwise.{pointwise}
use Rattle.ioa_compose.specs.SameConfs.{same_conf}
use Rattle.ioa_compose.specs.Start.{node_start}
use Rattle.ioa_starts.proofs.starting.are_node_starts.Given as goal

-- what is left decides as the whole does
abbrev pub invariant-loop-position : goal.invariant-loop-position
invariant-loop-position l =
    pointwise same_conf (drop l.position l.confs) (map node_start (map arc_value (drop l.position l.programs)))
    ≡ pointwise same_conf l.confs (map node_start (map arc_value l.programs))
