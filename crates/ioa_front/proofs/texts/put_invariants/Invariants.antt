use Rattle.std.proofs.Common.{◌≡◌, ◌++◌, map, drop}
use Rattle.ioa_source.specs.TextView.{invariant_of}
use Rattle.ioa_front.specs.Spelling.{joined_spelling, invariant_spelling}
use Rattle.ioa_front.proofs.texts.put_invariants.Given as goal

-- what is put so far and the invariants that are left are all of them
abbrev pub invariant-loop-invariant : goal.invariant-loop-invariant
invariant-loop-invariant l =
    l.out ++ joined_spelling invariant_spelling (map invariant_of (drop l.invariant-index l.invariants)) ≡ l.initial.out ++ joined_spelling invariant_spelling (map invariant_of l.invariants)
