use Rattle.std.proofs.Common.{◌≡◌, ◌++◌, drop}
use Rattle.ioa_passes.specs.Passes.{components_seen}
use Rattle.ioa_passes.proofs.pass.components_of.Given as goal

-- the components so far, and then those that are left
abbrev pub invariant-loop-entry : goal.invariant-loop-entry
invariant-loop-entry l =
    l.components.items ++ components_seen (drop l.entry-index l.seen) ≡ components_seen l.seen
