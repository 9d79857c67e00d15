use Rattle.std.proofs.Common.{◌≡◌, min, length, map, refl, arith}
use lib.Pointwise.{pointwise}
use Rattle.ioa_operators.proofs.SameLists.{same_ended}
use Rattle.ioa_terms.specs.SameTerms.{same_firing}
use Rattle.ioa_terms.specs.View.{firing_of}
use Rattle.ioa_terms.proofs.same.are_same_firings.Goals as goal

-- the shorter list has ended
pub returns : goal.returns
returns g c =
    let at_end : c.loop-position.position ≡ min (length c.args.firings.now.items) (length c.args.others.now.items) = omega arith in
    let ended = same_ended (λ fs gs. pointwise (same_firing g.N.PartialEq.eq g.C.PartialEq.eq g.D.PartialEq.eq) (map firing_of fs) (map firing_of gs)) refl (λ f fs. refl) (λ f fs. refl) c.args.firings.now.items c.args.others.now.items c.loop-position.position at_end in
    cc (c.args.firings.now.ok.0, c.args.others.now.ok.0)
