use Rattle.ioa_run_laws.proofs.ShownLooks.{book_chosen, book_read, shown_inboxes, shown_shaped, shown_sorted, shown_turn, under_way}
use Rattle.ioa_run_laws.proofs.looks.shown_law.Goals as goal

pub returns : goal.returns
returns c = record {
  read = shown_shaped;
  nodes = shown_sorted;
  inboxes = shown_inboxes;
  turn = shown_turn;
  under_way = under_way;
  chosen = book_chosen;
  invariants = book_read;
}
