use Rattle.std.proofs.Common.{◌≡◌, map}
use Rattle.std.specs.List.{AllZip}
use Rattle.ioa_solo.specs.Hands.{Gains}
use Rattle.ioa_solo.specs.SomeVisits.{ArePassed}
use Rattle.ioa_solo.specs.Told.{IsToldTo}
use Rattle.ioa_solo.specs.Visits.{attempts_left, numbers_of, progress_in}
use Rattle.ioa_solo.proofs.ToldRounds.{AreInRounds}
use Rattle.ioa_solo.proofs.going.go_rounds.Given as goal

-- the commits so far have used the attempts that are not left, each node has its number, and so many rounds are gone, on
-- whatever book, and on one that is told
abbrev pub invariant-loop-round : goal.invariant-loop-round
invariant-loop-round g l = record {
  gained : Gains (attempts_left l.initial.nodes) (attempts_left l.nodes) l.initial.hand l.hand;
  numbers : numbers_of l.nodes ≡ numbers_of l.initial.nodes;
  turns : AllZip (ArePassed g.B.Board.opened l._round) (map progress_in l.initial.nodes) (map progress_in l.nodes);
  told : IsToldTo g.B.Board.told (g.B.Board.tells l.initial.board) l.initial.hand.pass →
      AreInRounds (g.B.Board.tells l.initial.board) (g.B.Board.tells l.board) l.initial.hand.receipts.all l.hand.receipts.all l.hand.pass
      l._round (map progress_in l.initial.nodes) (map progress_in l.nodes);
}
