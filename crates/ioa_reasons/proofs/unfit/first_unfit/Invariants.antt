use Rattle.std.proofs.Common.{◌≡◌, map, drop}
use Rattle.ioa_source.specs.TextView.{parameter_of}
use Rattle.ioa_reasons.specs.Unfit as spec
use Rattle.ioa_reasons.proofs.unfit.first_unfit.Given as goal

-- the arguments gone by are of the sorts of their parameters
abbrev pub invariant-loop-i : goal.invariant-loop-i
invariant-loop-i l =
    spec.first_unfit (map parameter_of (drop l.i l.parameters)) (drop l.i l.arguments)
    ≡ spec.first_unfit (map parameter_of l.parameters) l.arguments
