use Rattle.std.proofs.Common.{ℕ, ◌<◌}
use Rattle.ioa_index.specs.Indexes.{IsFirst}
use Rattle.ioa_commits.proofs.holding.are_distinct.Given as goal

-- no component in a slot gone by stands in one before
abbrev pub invariant-loop-slot : goal.invariant-loop-slot
invariant-loop-slot l = (s : ℕ) → s < l.slot → IsFirst l.index s
