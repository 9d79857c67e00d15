use Rattle.std.proofs.Common.{◌≡◌, ◌+◌, ◌++◌, [], Ok, map, drop}
use Rattle.ioa_values.specs.Outcome.{and_then}
use Rattle.ioa_source.specs.TextView.{invariant_of}
use Rattle.ioa_check.specs.Checking.{invariants_at}
use Rattle.ioa_check.proofs.invariants.invariants_of.Given as goal

-- all invariants are those so far and then those of the declarations that are left
abbrev pub invariant-loop-position : goal.invariant-loop-position
invariant-loop-position l =
    invariants_at l.section.constants l.section.programs l.section.channels l.first [] (map invariant_of l.invariants.items)
    ≡ and_then (invariants_at l.section.constants l.section.programs l.section.channels (l.first + l.position) l.names (map invariant_of (drop l.position l.invariants.items))) (λ is. Ok (l.found.items ++ is))
