use Rattle.std.proofs.Common.{◌≡◌, min, length, map, refl, arith}
use Rattle.ioa_operators.proofs.SameLists.{same_ended}
use Rattle.ioa_terms.specs.PlainTerm.{terms_of}
use Rattle.ioa_terms.specs.SameTerms.{same_terms}
use Rattle.ioa_terms.specs.View.{term_of}
use Rattle.ioa_terms.proofs.same.+comparing_terms.Goals as goal

-- the shorter list has ended
pub are_same_terms-returns : goal.are_same_terms-returns
are_same_terms-returns g t c =
    let at_end : c.loop-position.position ≡ min (length c.args.terms.now.items) (length c.args.others.now.items) = omega arith in
    let ended = same_ended (λ ts us. same_terms g.N.PartialEq.eq g.C.PartialEq.eq g.D.PartialEq.eq (terms_of (map term_of ts)) (terms_of (map term_of us))) refl (λ u us. refl) (λ t ts. refl) c.args.terms.now.items c.args.others.now.items c.loop-position.position at_end in
    cc (c.args.terms.now.ok.0, c.args.others.now.ok.0)
