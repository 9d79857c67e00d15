use Rattle.std.proofs.Common.{◌≡◌, ◌≤◌, ◌+◌, replicate}
use Rattle.ioa_held.proofs.share.shares_of.Given as goal

-- so many shares so far, and the parts that are left
abbrev pub invariant-loop : goal.invariant-loop
invariant-loop g l = record {
  made : l.shares.items ≡ replicate l.counter 0;
  within : l.counter ≤ l.workers;
  parts : l.rest.parts + l.counter ≡ l.workers;
  amount : l.rest.amount ≡ 0;
}
