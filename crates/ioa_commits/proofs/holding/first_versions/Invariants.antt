use Rattle.std.proofs.Common.{◌≡◌, ◌++◌, [], drop, map}
use Rattle.ioa_commits.specs.Versions.{with_version}
use Rattle.ioa_commits.proofs.holding.first_versions.Given as goal

-- what is held so far, and then the configurations that are left
abbrev pub invariant-loop-slot : goal.invariant-loop-slot
invariant-loop-slot g l =
    l.held.items ++ map (with_version []) (drop l.slot l.confs) ≡ map (with_version []) l.confs
