use Rattle.std.proofs.Common.{◌≡◌, ◌++◌, Ok, map, drop}
use Rattle.ioa_values.specs.Outcome.{and_then}
use Rattle.ioa_terms.specs.Resolved.{AreTermsResolved}
use Rattle.ioa_terms.specs.Bindings.{names_of}
use Rattle.ioa_terms.specs.Stepwise.{stepwise_answers}
use Rattle.ioa_terms.specs.PlainTerm.{terms_of}
use Rattle.ioa_terms.specs.View.{term_of}
use Rattle.ioa_terms.proofs.evaluation.+evaluating.Given as goal

-- the values of all parts are those so far and then those of the parts that are left
abbrev pub invariant-evaluate_all-loop-part : goal.invariant-evaluate_all-loop-part
invariant-evaluate_all-loop-part l = record {
  resolved : AreTermsResolved (terms_of (map term_of (drop l.part-index l.part-items))) (names_of l.env);
  same : stepwise_answers (terms_of (map term_of l.parts.items)) l.env
      ≡ and_then (stepwise_answers (terms_of (map term_of (drop l.part-index l.part-items))) l.env) (λ vs. Ok (l.values.items ++ vs));
}
