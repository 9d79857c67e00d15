use Rattle.ioa_call_tests.proofs.sharing.owners_of_one_value_are_told_from_owners_of_equal_ones.Given as goal

-- the origin stands for the list of the maker that is made here
abbrev pub ghosts-tells_owners : goal.ghosts-tells_owners
ghosts-tells_owners a a' = record { name = a'.maker.ledger.name }
