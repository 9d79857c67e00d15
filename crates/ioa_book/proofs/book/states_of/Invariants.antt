use Rattle.std.proofs.Common.{◌≡◌, ◌++◌, drop}
use Rattle.ioa_commits.specs.Versions.{read_confs}
use Rattle.ioa_book.proofs.book.states_of.Given as goal

-- the configurations so far, and then those of what is left
abbrev pub invariant-loop-read : goal.invariant-loop-read
invariant-loop-read g l = l.states.items ++ read_confs (drop l.read-index l.held) ≡ read_confs l.held
