use Rattle.std.proofs.Common.{◌≡◌, ◌++◌, drop}
use Rattle.ioa_verdicts.specs.Readers.{readers_from}
use Rattle.ioa_verdicts.proofs.readers.readers_of.Given as goal

-- the readers so far, and those among the invariants that are left
abbrev pub invariant-loop-number : goal.invariant-loop-number
invariant-loop-number l =
    l.numbers.items ++ readers_from l.component l.number (drop l.number l.invariants) ≡ readers_from l.component 0 l.invariants
