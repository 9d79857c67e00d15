use Rattle.std.proofs.Common.{◌≡◌, ◌++◌, drop}
use Rattle.ioa_index.specs.Own.{own_slots}
use Rattle.ioa_index.proofs.index.own_slots.Given as goal

-- the slots found so far, and then those among the components that are left
abbrev pub invariant-loop-slot : goal.invariant-loop-slot
invariant-loop-slot l =
    l.slots.items ++ own_slots l.node l.slot (drop l.slot l.components) ≡ own_slots l.node 0 l.components
