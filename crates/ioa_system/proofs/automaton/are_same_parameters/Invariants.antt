use Rattle.std.proofs.Common.{◌≡◌, drop, map}
use Rattle.ioa_source.specs.TextView.{declared_of}
use Rattle.ioa_system.specs.SameParts.{same_parameters}
use Rattle.ioa_system.proofs.automaton.are_same_parameters.Given as goal

-- what is left decides as the whole does
abbrev pub invariant-loop-position : goal.invariant-loop-position
invariant-loop-position l =
    same_parameters (map declared_of (drop l.position l.parameters.items)) (map declared_of (drop l.position l.others.items))
    ≡ same_parameters (map declared_of l.parameters.items) (map declared_of l.others.items)
