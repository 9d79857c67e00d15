use Rattle.std.proofs.Common.{◌≡◌, ◌≤◌, replicate}
use Rattle.ioa_core.proofs.hand.no_counts.Given as goal

-- so many counts so far
abbrev pub invariant-loop : goal.invariant-loop
invariant-loop l = record {
  made : l.counts.items ≡ replicate l.counter 0;
  within : l.counter ≤ l.count;
}
