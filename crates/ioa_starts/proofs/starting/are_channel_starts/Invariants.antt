use Rattle.std.proofs.Common.{◌≡◌, drop, map}
use lib.Pointwise.{pointwise}
use Rattle.ioa_compose.specs.SameConfs.{same_conf}
use Rattle.ioa_compose.specs.Start.{channel_start}
use Rattle.ioa_starts.proofs.starting.are_channel_starts.Given as goal

-- what is left decides as the whole does
abbrev pub invariant-loop-position : goal.invariant-loop-position
invariant-loop-position l =
    pointwise same_conf (drop l.position l.confs) (map channel_start (drop l.position l.channels))
    ≡ pointwise same_conf l.confs (map channel_start l.channels)
