use Rattle.std.proofs.Common.{◌≡◌, take}
use Rattle.ioa_held.proofs.share.counts_of.Given as goal

-- the counts of the shares so far
abbrev pub invariant-loop-share : goal.invariant-loop-share
invariant-loop-share g l = l.counts.items ≡ take l.share-index l.shares
