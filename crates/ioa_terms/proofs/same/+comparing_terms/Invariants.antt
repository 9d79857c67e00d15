use Rattle.std.proofs.Common.{◌≡◌, drop, map}
use Rattle.ioa_terms.specs.PlainTerm.{terms_of}
use Rattle.ioa_terms.specs.SameTerms.{same_terms}
use Rattle.ioa_terms.specs.View.{term_of}
use Rattle.ioa_terms.proofs.same.+comparing_terms.Given as goal

-- what is left decides as the whole does
abbrev pub invariant-are_same_terms-loop-position : goal.invariant-are_same_terms-loop-position
invariant-are_same_terms-loop-position g l =
    same_terms g.N.PartialEq.eq g.C.PartialEq.eq g.D.PartialEq.eq (terms_of (map term_of (drop l.position l.terms.items))) (terms_of (map term_of (drop l.position l.others.items)))
    ≡ same_terms g.N.PartialEq.eq g.C.PartialEq.eq g.D.PartialEq.eq (terms_of (map term_of l.terms.items)) (terms_of (map term_of l.others.items))
