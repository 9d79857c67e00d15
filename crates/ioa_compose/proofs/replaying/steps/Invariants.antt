use Rattle.std.proofs.Common.{◌≡◌, Some, take}
use Rattle.ioa_compose.specs.Executions.{replay}
use Rattle.ioa_compose.proofs.replaying.steps.Given as goal

-- the entries so far replay to the configurations so far
abbrev pub invariant-loop-position : goal.invariant-loop-position
invariant-loop-position l = replay (take l.position l.entries) l.fn.start.items ≡ Some l.confs.items
