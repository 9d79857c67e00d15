use Rattle.std.proofs.Common.{◌≡◌, ◌++◌, drop, map}
use Rattle.ioa_index.specs.Indexes.{first_of}
use Rattle.ioa_index.proofs.index.first_slots.Given as goal

-- the slots so far, and then those of the components that are left
abbrev pub invariant-loop-component : goal.invariant-loop-component
invariant-loop-component l =
    l.firsts.items ++ map (λ k. first_of l.components k) (drop l.component-index l.components)
    ≡ map (λ k. first_of l.components k) l.components
