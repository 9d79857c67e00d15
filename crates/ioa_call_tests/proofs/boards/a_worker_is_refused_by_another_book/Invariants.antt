use Rattle.std.specs.Arc.{arc_value}
use Rattle.ioa_call_tests.proofs.boards.a_worker_is_refused_by_another_book.Given as goal

-- each origin stands for the list of the maker that is made here, and for the system and the limit of its book; and each
-- ledger for the one that the blank begins
abbrev pub ghosts-left_by_another-O-Origin : goal.ghosts-left_by_another-O-Origin
ghosts-left_by_another-O-Origin a a' = record { name = a'.maker.ledger.name }

abbrev pub ghosts-left_by_another-O-Opening : goal.ghosts-left_by_another-O-Opening
ghosts-left_by_another-O-Opening a a' = record { system = arc_value a'.held.now; limit = 100 }

abbrev pub ghosts-left_by_another-L-Ledger : goal.ghosts-left_by_another-L-Ledger
ghosts-left_by_another-L-Ledger a a' = record { name = a'.blank.name; parts = a'.blank.parts }

abbrev pub ghosts-left_by_own-O-Origin : goal.ghosts-left_by_own-O-Origin
ghosts-left_by_own-O-Origin a a' = record { name = a'.maker.ledger.name }

abbrev pub ghosts-left_by_own-O-Opening : goal.ghosts-left_by_own-O-Opening
ghosts-left_by_own-O-Opening a a' = record { system = arc_value a'.system.now; limit = 100 }

abbrev pub ghosts-left_by_own-L-Ledger : goal.ghosts-left_by_own-L-Ledger
ghosts-left_by_own-L-Ledger a a' = record { name = a'.blank.name; parts = a'.blank.parts }
