use Rattle.std.proofs.Common.{◌≡◌, ◌≤◌, ◌*◌, ◌++◌, ℤ, Bool, true, map, take, drop, length}
use Rattle.std.specs.Prelude.{filter}
use Rattle.ioa_commits.specs.Books.{states_held}
use Rattle.ioa_sharing.specs.Named.{shared_of_value}
use Rattle.ioa_solo.specs.SomeVisits.{AreBegun}
use Rattle.ioa_solo.specs.Told.{IsToldTo, IsUpTo}
use Rattle.ioa_solo.specs.Visits.{attempts_left, visited_of}
use Rattle.ioa_solo.specs.Works.{all_met}
use Rattle.ioa_solo.proofs.working.start_nodes.Given as goal

-- the nodes so far have no more attempts than those gone by, each is met, nothing is committed, and on a book that is told
-- they come before the others
abbrev pub invariant-loop-node : goal.invariant-loop-node
invariant-loop-node g l = record {
  few : (those : ℤ → Bool) → attempts_left l.visited.items those ≤ l.attempts * length (filter those (take l.node-index l.nodes));
  begun : AreBegun g.B.Board.opened l.attempts (shared_of_value l.system).programs l.visited.items;
  share : l.hand.share ≡ l.initial.hand.share;
  receipts : l.hand.receipts ≡ l.initial.hand.receipts;
  same : g.B.Board.told ≡ true → g.B.Board.tells l.board ≡ g.B.Board.tells l.initial.board;
  told : IsToldTo g.B.Board.told (g.B.Board.tells l.initial.board) l.initial.hand.pass → record {
    not_ahead : IsUpTo (g.B.Board.tells l.initial.board) l.hand.pass;
    met : map visited_of l.visited.items
        ++ all_met (shared_of_value l.system).programs l.attempts (states_held (g.B.Board.tells l.initial.board)) (drop l.node-index l.nodes)
        ≡ all_met (shared_of_value l.system).programs l.attempts (states_held (g.B.Board.tells l.initial.board)) l.nodes;
  };
}
