use Rattle.std.proofs.Common.{◌≡◌, ◌≤◌, ◌-◌, length, take}
use Rattle.ioa_paper.specs.Papers.{and_text}
use Rattle.ioa_paper.proofs.paper.Paper.put_long.Given as goal

-- the first bytes of the piece are taken
abbrev pub invariant-loop-taken : goal.invariant-loop-taken
invariant-loop-taken g l = record {
  within : l.taken ≤ length l.piece;
  text : l.self ≡ and_text l.initial.self (take l.taken l.piece);
}

abbrev pub decreases-loop-taken : goal.decreases-loop-taken
decreases-loop-taken g l = length l.piece - l.taken
