use Rattle.std.proofs.Common.{◌≡◌, drop, map}
use lib.Pointwise.{pointwise}
use Rattle.ioa_terms.specs.SameTerms.{same_firing}
use Rattle.ioa_terms.specs.View.{firing_of}
use Rattle.ioa_terms.proofs.same.are_same_firings.Given as goal

-- what is left decides as the whole does
abbrev pub invariant-loop-position : goal.invariant-loop-position
invariant-loop-position g l =
    pointwise (same_firing g.N.PartialEq.eq g.C.PartialEq.eq g.D.PartialEq.eq) (map firing_of (drop l.position l.firings.items)) (map firing_of (drop l.position l.others.items))
    ≡ pointwise (same_firing g.N.PartialEq.eq g.C.PartialEq.eq g.D.PartialEq.eq) (map firing_of l.firings.items) (map firing_of l.others.items)
