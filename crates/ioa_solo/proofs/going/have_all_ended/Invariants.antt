use Rattle.std.proofs.Common.{◌≡◌, map, drop}
use Rattle.std.specs.List.{list_all}
use Rattle.ioa_solo.specs.Solo.{has_ended}
use Rattle.ioa_solo.specs.Visits.{progress_in}
use Rattle.ioa_solo.proofs.going.have_all_ended.Given as goal

-- the nodes gone by have endings
abbrev pub invariant-loop-node : goal.invariant-loop-node
invariant-loop-node g l =
    list_all has_ended (map progress_in (drop l.node-index l.nodes)) ≡ list_all has_ended (map progress_in l.nodes)
