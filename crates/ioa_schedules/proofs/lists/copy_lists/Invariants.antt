use Rattle.std.proofs.Common.{◌≡◌, length, take}
use Rattle.ioa_schedules.proofs.lists.copy_lists.Given as goal

-- the lists so far are the first ones
abbrev pub invariant-loop-position : goal.invariant-loop-position
invariant-loop-position l = record {
  as_many : length l.to.items ≡ length l.from;
  copied : take l.position l.to.items ≡ take l.position l.from;
}

abbrev pub invariant-loop-list : goal.invariant-loop-list
invariant-loop-list l = l.to.items ≡ take l.list-index l.from
