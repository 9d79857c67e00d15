use Rattle.std.proofs.Common.{◌≡◌, ◌-◌, ◌*◌, ◌/◌, ◌≤◌}
use Rattle.std.specs.List.{slice_get}
use Rattle.ioa_rawlog.specs.Blocks.{joined, IsLaid}
use Rattle.ioa_rawlog.proofs.log.RawLog.get.Given as goal

-- the item stands among the blocks that are left, nearer by 64 with each of them
abbrev pub invariant-loop : goal.invariant-loop
invariant-loop g l = record {
  laid : IsLaid l.left;
  found : slice_get (joined l.left) (l.fn.index - 64 * l.counter) ≡ slice_get l.fn.self l.fn.index;
  within : l.counter ≤ l.end;
  rounds : l.end ≡ l.fn.index / 64;
}
