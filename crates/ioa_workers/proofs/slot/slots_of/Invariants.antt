use Rattle.std.proofs.Common.{◌≡◌, length}
use Rattle.ioa_sharing.specs.Named.{shared_of_value}
use Rattle.ioa_workers.specs.Slots.{AreUnbegun, node_numbers}
use Rattle.ioa_workers.proofs.slot.slots_of.Given as goal

-- there is a slot for each share gone by
abbrev pub invariant-loop-share : goal.invariant-loop-share
invariant-loop-share g l =
    (length l.slots.items ≡ length l.yielded)
    × AreUnbegun (node_numbers (shared_of_value l.system)) (length l.fn.shares.items) l.slots.items
