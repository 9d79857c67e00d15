use Rattle.ioa_tell.proofs.telling.tell.Given as goal

-- the origin stands for the list of the maker that is made here
abbrev pub ghosts-tell_by : goal.ghosts-tell_by
ghosts-tell_by g a = record { name = a.maker.ledger.name }
