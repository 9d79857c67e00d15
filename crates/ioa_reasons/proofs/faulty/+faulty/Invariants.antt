use Rattle.std.proofs.Common.{◌≡◌, map, drop}
use Rattle.ioa_terms.specs.Bindings.{names_of}
use Rattle.ioa_terms.specs.PlainTerm.{terms_of}
use Rattle.ioa_terms.specs.Resolved.{AreTermsResolved}
use Rattle.ioa_terms.specs.View.{term_of}
use Rattle.ioa_reasons.specs.Faulty.{first_faulty}
use Rattle.ioa_reasons.proofs.faulty.+faulty.Given as goal

-- the terms gone by have values
abbrev pub invariant-first_faulty-loop-term : goal.invariant-first_faulty-loop-term
invariant-first_faulty-loop-term l = record {
  resolved : AreTermsResolved (terms_of (map term_of (drop l.term-index l.term-items))) (names_of l.env);
  same : first_faulty (terms_of (map term_of (drop l.term-index l.term-items))) l.env
      ≡ first_faulty (terms_of (map term_of l.terms.items)) l.env;
}
