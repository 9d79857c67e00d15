use Rattle.std.proofs.Common.{◌≡◌, ◌+◌, sum, vec_len}
use Rattle.ioa_held.proofs.share.whole_of.Given as goal

-- what is put together so far and what is left are all
abbrev pub invariant-loop-share : goal.invariant-loop-share
invariant-loop-share g l = record {
  parts : l.whole.parts + vec_len l.shares ≡ vec_len l.fn.shares;
  amount : l.whole.amount + sum l.shares.items ≡ sum l.fn.shares.items;
}

abbrev pub decreases-loop-share : goal.decreases-loop-share
decreases-loop-share g l = goal.left-loop-share g l
