use Rattle.std.proofs.Common.{◌≡◌, drop, map}
use lib.Pointwise.{pointwise}
use Rattle.ioa_source.specs.SameTexts.{same_parameter}
use Rattle.ioa_source.specs.TextView.{parameter_of}
use Rattle.ioa_source.proofs.same.are_same_parameters.Given as goal

-- what is left decides as the whole does
abbrev pub invariant-loop-position : goal.invariant-loop-position
invariant-loop-position g l =
    pointwise (same_parameter g.N.PartialEq.eq g.C.PartialEq.eq g.D.PartialEq.eq) (map parameter_of (drop l.position l.parameters.items)) (map parameter_of (drop l.position l.others.items))
    ≡ pointwise (same_parameter g.N.PartialEq.eq g.C.PartialEq.eq g.D.PartialEq.eq) (map parameter_of l.parameters.items) (map parameter_of l.others.items)
