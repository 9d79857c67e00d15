-- The test of a guard by its truth value.
use Rattle.std.proofs.Common.{◌≡◌, Bool, true, false, [], Option, Some, None, Result, Ok, Err, sym, ap, ◌∙◌}
use Rattle.ioa_values.specs.Data.{Data, as_truth}
use Rattle.ioa_values.specs.Outcome.{and_then}
use Rattle.ioa_operators.specs.RangeCheck.{range_check}
use Rattle.ioa_operators.specs.declared.fault.TermFault.{TermFault}
use Rattle.ioa_terms.specs.Bindings.{Bindings}
use Rattle.ioa_terms.specs.Meaning.{answer}
use Rattle.ioa_terms.specs.Stepwise.{stepwise_answer, stepwise_test}
use Rattle.ioa_terms.proofs.Stepwise.{stepwise_is}
use Rattle.ioa_actions.specs.declared.fault.StepFault.TheVariants.{NotEnabled}
use Rattle.ioa_source.specs.Sides.{CheckedTerm}
use Rattle.ioa_transitions.specs.NodeAnswers.{truth_answer, value_answer}

by_truth : (o : Option Bool) (b : Bool) → range_check [] o ≡ Ok b → truth_answer o ≡ truth_answer (Some b)
by_truth None b h = absurd (cc)
by_truth (Some t) b h = let same : t ≡ b = cc in ap (λ x. truth_answer (Some x)) same

by_value : (r : Result Data TermFault) (b : Bool) → and_then r (λ v. range_check [] (as_truth v)) ≡ Ok b → value_answer r ≡ truth_answer (Some b)
by_value (Ok v) b h = by_truth (as_truth v) b h
by_value (Err f) b h = absurd (cc)

-- a test passes if it is true, and only then
by_test : (t : CheckedTerm) (e : Bindings) (b : Bool) → stepwise_test t e ≡ Ok b → value_answer (answer t e) ≡ truth_answer (Some b)
by_test t e b h = ap value_answer (sym (stepwise_is t e)) ∙ by_value (stepwise_answer t e) b h

pub test_passes : (t : CheckedTerm) (e : Bindings) → stepwise_test t e ≡ Ok true → value_answer (answer t e) ≡ Ok tt
test_passes t e h = by_test t e true h

pub test_fails : (t : CheckedTerm) (e : Bindings) → stepwise_test t e ≡ Ok false → value_answer (answer t e) ≡ Err NotEnabled
test_fails t e h = by_test t e false h
