use Rattle.std.proofs.Common.{◌≡◌}
use Rattle.ioa_book.specs.Proposals.{find_read}
use Rattle.ioa_book.proofs.snapshot.Snapshot.read_of.Given as goal

-- it is to be found in what is left
abbrev pub invariant-loop-read : goal.invariant-loop-read
invariant-loop-read g l = find_read l.component l.read-iterator ≡ find_read l.component l.self.reads
