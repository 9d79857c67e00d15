use Rattle.std.proofs.Common.{◌≡◌, map, take, drop}
use Rattle.ioa_solo.specs.Hands.{Gains}
use Rattle.ioa_solo.specs.Told.{IsToldTo}
use Rattle.ioa_solo.specs.Visits.{attempts_left, numbers_of, progress_in}
use Rattle.ioa_solo.proofs.SomeVisits.{IsInPassing}
use Rattle.ioa_solo.proofs.ToldRounds.{IsInRound}
use Rattle.ioa_solo.proofs.going.go_round.Given as goal

-- the commits so far have used the attempts that are not left, each node has its number, and the nodes gone by have had
-- their visits of the round, on whatever book, and on one that is told
abbrev pub invariant-loop-position : goal.invariant-loop-position
invariant-loop-position g l = record {
  gained : Gains (attempts_left l.initial.nodes) (attempts_left l.nodes) l.initial.hand l.hand;
  numbers : numbers_of l.nodes ≡ numbers_of l.initial.nodes;
  passing : IsInPassing g.B.Board.opened l.position (map progress_in l.initial.nodes) (map progress_in (take l.position l.nodes)) (map progress_in (drop l.position l.nodes));
  told : IsToldTo g.B.Board.told (g.B.Board.tells l.initial.board) l.initial.hand.pass →
      IsInRound (g.B.Board.tells l.initial.board) (g.B.Board.tells l.board) l.initial.hand.receipts.all l.hand.receipts.all l.hand.pass
      l.position (map progress_in l.initial.nodes) (map progress_in (take l.position l.nodes)) (map progress_in (drop l.position l.nodes));
}
