-- The laws of executions hold of every book.
use Rattle.std.proofs.Common.{◌≡◌, ◌≤◌, Some, length}
use Rattle.ioa_compose.specs.Executions.{replay}
use Rattle.ioa_compose.proofs.Deliveries.{hands_out_from_empty, takes_in_order}
use Rattle.ioa_compose.proofs.Projections.{replay_projects, replays}
use Rattle.ioa_commits.specs.Books.{PlainBook, states_held}
use Rattle.ioa_book.specs.BookLaws.{IsLawful}

pub lawful : (b : PlainBook) → replay b.log b.start ≡ Some (states_held b) → length b.log ≤ b.limit → IsLawful b
lawful b leads within =
    record {
      leads = leads;
      within = within;
      projections = replay_projects b.log b.start (states_held b) leads;
      execution = λ s. replays b.log b.start (states_held b) s leads;
      channels = λ s. hands_out_from_empty b.log b.start (states_held b) (replays b.log b.start (states_held b) s leads);
      scripts = λ s. takes_in_order b.log b.start (states_held b) (replays b.log b.start (states_held b) s leads);
    }
