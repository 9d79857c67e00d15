use Rattle.std.proofs.Common.{◌≡◌, ◌≤◌, length}
use Rattle.ioa_schedules.specs.Turns.{joined_statements}
use Rattle.ioa_schedules.specs.Positions.{below_of, bottom_by, statements_in}
use Rattle.ioa_schedules.proofs.lists.first_list.Given as goal

-- what is to do stays the same
abbrev pub invariant-loop-top : goal.invariant-loop-top
invariant-loop-top l = record {
  same : joined_statements (statements_in l.top) (below_of l.below.items) ≡ joined_statements (statements_in l.fn.first) (below_of l.fn.below.items);
  fewer : length l.below.items ≤ length l.fn.below.items;
  bottom : bottom_by l.top l.below.items ≡ bottom_by l.fn.first l.fn.below.items;
}

-- each turn takes a list away
abbrev pub decreases-loop-top : goal.decreases-loop-top
decreases-loop-top l = length l.below.items
