use Rattle.ioa_call_tests.proofs.looks.a_book_of_the_largest_star_is_opened.Given as goal

-- the origin stands for the list of the maker that is made here
abbrev pub ghosts-opens : goal.ghosts-opens
ghosts-opens a a' = record { name = a'.maker.ledger.name }
