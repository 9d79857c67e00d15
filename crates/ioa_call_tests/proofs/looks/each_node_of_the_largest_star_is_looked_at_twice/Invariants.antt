use Rattle.ioa_call_tests.proofs.looks.each_node_of_the_largest_star_is_looked_at_twice.Given as goal

-- the origin stands for the list of the maker that is made here
abbrev pub ghosts-shows_all : goal.ghosts-shows_all
ghosts-shows_all a a' = record { name = a'.maker.ledger.name }
