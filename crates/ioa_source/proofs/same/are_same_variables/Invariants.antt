use Rattle.std.proofs.Common.{◌≡◌, drop, map}
use lib.Pointwise.{pointwise}
use Rattle.ioa_source.specs.SameTexts.{same_variable}
use Rattle.ioa_source.specs.TextView.{variable_of}
use Rattle.ioa_source.proofs.same.are_same_variables.Given as goal

-- what is left decides as the whole does
abbrev pub invariant-loop-position : goal.invariant-loop-position
invariant-loop-position g l =
    pointwise (same_variable g.N.PartialEq.eq g.C.PartialEq.eq g.D.PartialEq.eq) (map variable_of (drop l.position l.variables.items)) (map variable_of (drop l.position l.others.items))
    ≡ pointwise (same_variable g.N.PartialEq.eq g.C.PartialEq.eq g.D.PartialEq.eq) (map variable_of l.variables.items) (map variable_of l.others.items)
