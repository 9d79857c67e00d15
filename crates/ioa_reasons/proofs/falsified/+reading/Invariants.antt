use Rattle.std.proofs.Common.{◌≡◌, map, drop}
use Rattle.ioa_terms.specs.Bindings.{names_of}
use Rattle.ioa_terms.specs.PlainTerm.{terms_of}
use Rattle.ioa_terms.specs.Resolved.{AreTermsResolved}
use Rattle.ioa_terms.specs.View.{term_of}
use Rattle.ioa_reasons.specs.PlainReasons.{named_value}
use Rattle.ioa_reasons.specs.Tests as spec
use Rattle.ioa_reasons.proofs.falsified.+reading.Given as goal

-- the names of the terms that are left come behind those that are there
abbrev pub invariant-read_all_values-loop-term : goal.invariant-read_all_values-loop-term
invariant-read_all_values-loop-term l = record {
  resolved : AreTermsResolved (terms_of (map term_of (drop l.term-index l.term-items))) (names_of l.env);
  same : spec.all_values_read (terms_of (map term_of (drop l.term-index l.term-items))) l.env
      (map named_value l.values.items)
      ≡ spec.all_values_read (terms_of (map term_of l.terms.items)) l.env (map named_value l.fn.values.items);
}
