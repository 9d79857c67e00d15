use Rattle.std.proofs.Common.{◌≡◌, ◌≤◌, replicate}
use Rattle.ioa_core.specs.declared.hand.Hand.TheVariants.{Empty}
use Rattle.ioa_core.proofs.hand.empty_hands.Given as goal

-- so many hands so far
abbrev pub invariant-loop : goal.invariant-loop
invariant-loop g l = record {
  made : l.hands.items ≡ replicate l.counter Empty;
  within : l.counter ≤ l.count;
}
