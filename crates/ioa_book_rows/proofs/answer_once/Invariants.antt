use Rattle.ioa_book_rows.proofs.answer_once.Given as goal

-- the origin stands for the list of the maker that is made here, and the ledger for the one that the blank begins
abbrev pub ghosts-answer_by-O-Origin : goal.ghosts-answer_by-O-Origin
ghosts-answer_by-O-Origin a = record { name = a.maker.ledger.name }

abbrev pub ghosts-answer_by-L-Ledger : goal.ghosts-answer_by-L-Ledger
ghosts-answer_by-L-Ledger a = record { name = a.blank.name; parts = a.blank.parts }
