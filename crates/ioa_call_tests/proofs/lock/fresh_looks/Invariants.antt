use Rattle.std.specs.Arc.{arc_value}
use Rattle.ioa_call_tests.proofs.lock.fresh_looks.Given as goal

-- the origin stands for the list of the maker that is made here
abbrev pub ghosts-are_fresh-O-Origin : goal.ghosts-are_fresh-O-Origin
ghosts-are_fresh-O-Origin a a' = record { name = a'.maker.ledger.name }

-- and for the system and the limit with which the book is opened
abbrev pub ghosts-are_fresh-O-Opening : goal.ghosts-are_fresh-O-Opening
ghosts-are_fresh-O-Opening a a' = record { system = arc_value a'.system.now; limit = 10 }

-- and the ledger for the one that the blank begins
abbrev pub ghosts-are_fresh-L-Ledger : goal.ghosts-are_fresh-L-Ledger
ghosts-are_fresh-L-Ledger a a' = record { name = a'.blank.name; parts = a'.blank.parts }
