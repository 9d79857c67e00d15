use Rattle.std.proofs.Common.{◌≡◌, drop, map}
use Rattle.ioa_tell.specs.Nodes.{progress_in}
use Rattle.ioa_tell.specs.Visits.{ended_as}
use Rattle.ioa_tell.proofs.telling.have_ended_as.Given as goal

-- the nodes gone by have ended as is recorded
abbrev pub invariant-loop-position : goal.invariant-loop-position
invariant-loop-position g l =
    map ended_as (map progress_in (drop l.position l.nodes)) ≡ drop l.position l.endings → map ended_as (map progress_in l.nodes) ≡ l.endings
