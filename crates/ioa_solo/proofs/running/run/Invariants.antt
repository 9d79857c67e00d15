use Rattle.std.specs.Arc.{arc_value}
use Rattle.ioa_solo.proofs.running.run.Given as goal

-- the origin stands for the list of the maker that is made here
abbrev pub ghosts-run_by-O-Origin : goal.ghosts-run_by-O-Origin
ghosts-run_by-O-Origin g a = record { name = a.maker.ledger.name }

-- and for the system and the limit with which the book is opened
abbrev pub ghosts-run_by-O-Opening : goal.ghosts-run_by-O-Opening
ghosts-run_by-O-Opening g a = record { system = arc_value a.system.now; limit = a.options.now.steps }

-- and the ledger for the blank, which has one part
abbrev pub ghosts-run_by-L-Ledger : goal.ghosts-run_by-L-Ledger
ghosts-run_by-L-Ledger g a = record { name = a.blank.name; parts = a.blank.parts }
