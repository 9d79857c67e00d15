use Rattle.std.proofs.Common.{◌≡◌, drop}
use Rattle.ioa_commits.specs.Slots.{raise_at}
use Rattle.ioa_commits.proofs.holding.raise_at.Given as goal

-- the versions in the slots gone by are raised, and the others are still to be
abbrev pub invariant-loop-slot : goal.invariant-loop-slot
invariant-loop-slot g l =
    raise_at l.action (drop l.slot-index l.slots) l.held.items ≡ raise_at l.action l.slots l.initial.held.items
