use Rattle.std.proofs.Common.{◌≡◌, ◌≤◌, ◌++◌, Ok, map, drop, take, length}
use Rattle.ioa_values.specs.Outcome.{and_then}
use Rattle.ioa_terms.specs.PlainTerm.{terms_of}
use Rattle.ioa_terms.specs.Resolved.{AreTermsResolved}
use Rattle.ioa_terms.specs.Stepwise.{stepwise_answers}
use Rattle.ioa_terms.specs.View.{term_of}
use Rattle.ioa_terms.specs.Views.{environment_of, names_in_view}
use Rattle.ioa_schedules.proofs.arguments.evaluate_arguments.Given as goal

-- the values of all terms are those so far and then those of the terms that are left
abbrev pub invariant-loop-position : goal.invariant-loop-position
invariant-loop-position l = record {
  written : l.position ≤ length l.found.items;
  resolved : AreTermsResolved (terms_of (map term_of (drop l.position l.terms.items))) (names_in_view l.view);
  same : stepwise_answers (terms_of (map term_of l.terms.items)) (environment_of l.view l.values)
      ≡ and_then (stepwise_answers (terms_of (map term_of (drop l.position l.terms.items))) (environment_of l.view l.values)) (λ vs. Ok (take l.position l.found.items ++ vs));
}
