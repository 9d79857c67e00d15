use Rattle.std.proofs.Common.{◌≡◌, length, map, drop}
use Rattle.ioa_terms.specs.Choices.{left, source_of}
use Rattle.ioa_terms.specs.Resolved.{AreAllResolved, AreArmsResolved}
use Rattle.ioa_terms.specs.Stepwise.{stepwise_all, stepwise_choice}
use Rattle.ioa_terms.specs.PlainTerm.{statements_of, arms_of}
use Rattle.ioa_terms.specs.View.{statement_of, arm_of}
use Rattle.ioa_terms.specs.Views.{environment_of, names_in_view, own_names}
use Rattle.ioa_terms.proofs.performance.+performing.Given as goal

-- what is left to perform on the present values is the whole on the first ones
abbrev pub invariant-perform_all-loop-statement : goal.invariant-perform_all-loop-statement
invariant-perform_all-loop-statement l = record {
  kept : length l.values.items ≡ length l.initial.values.items;
  same : stepwise_all (statements_of (map statement_of (drop l.statement-index l.statements))) (left (environment_of l.view l.values.items) (source_of l.choices))
      ≡ stepwise_all (statements_of (map statement_of l.statements)) (left (environment_of l.view l.initial.values.items) (source_of l.initial.choices));
  resolved : AreAllResolved (statements_of (map statement_of (drop l.statement-index l.statements))) (own_names l.view (length l.initial.values.items)) (names_in_view l.view);
}

-- the arms that are left decide as all of them do
abbrev pub invariant-perform_one-loop-arm : goal.invariant-perform_one-loop-arm
invariant-perform_one-loop-arm l = record {
  kept : l.values ≡ l.initial.values;
  source : l.choices ≡ l.initial.choices;
  resolved : AreArmsResolved (arms_of (map arm_of (drop l.arm-index l.arm-items))) (own_names l.view (length l.values.items)) (names_in_view l.view);
  same : (let e = left (environment_of l.view l.values.items) (source_of l.choices) in let rest = stepwise_all (statements_of (map statement_of l.rest.items)) e in
      stepwise_choice (arms_of (map arm_of (drop l.arm-index l.arm-items))) rest e ≡ stepwise_choice (arms_of (map arm_of l.arm-items)) rest e);
}
