-- A part at which a step stops.
use Rattle.std.proofs.Common.{◌≡◌, List, Option, Some, None, Result, Ok, Err, refl}
use Rattle.std.specs.Prelude.{IfOk, IfSome}
use Rattle.ioa_values.specs.Data.{Data}
use Rattle.ioa_terms.specs.Views.{IsNamed, all_names, all_values, environment_of, names_in_view}
use Rattle.ioa_terms.specs.declared.environment.View.{View}
use Rattle.ioa_terms.proofs.Slots.{names_environment}
use Rattle.ioa_actions.specs.ActionParts.{action_name}
use Rattle.ioa_actions.specs.declared.action.Action.{Action}
use Rattle.ioa_system.specs.InView.{entry_condition, guard_or_effect}
use Rattle.ioa_system.specs.Parts.{PlainRule, rule_named}
use Rattle.ioa_compose.specs.declared.configuration.Conf.TheVariants as conf
use Rattle.ioa_transitions.specs.NodeState.{NodeState}
use Rattle.ioa_transitions.specs.NodeStep.{rule_bindings}
use Rattle.ioa_reasons.specs.PlainReasons.{PlainFault, PlainPlace, PlainStatementPlace}
use Rattle.ioa_reasons.specs.Faulted.{IsFaultAt, IsFaulted, StopsThen}
use Rattle.ioa_reasons.specs.Stopping.{StopsAt}

-- what stops in what is seen stops at some time
pub found_then : {A E : Type 0} (place : A → PlainStatementPlace) (g : A → PlainFault) (v : View) (vs : List Data) → IsNamed v vs → (found : Result (Option A) E) →
    IfOk found (λ o. IfSome o (λ f. StopsAt (place f) (environment_of v vs) (g f))) → IfOk found (λ o. IfSome o (λ f. StopsThen (names_in_view v) (place f) (g f)))
found_then place g v vs named (Ok None) h = tt
found_then place g v vs named (Ok (Some f)) h = (environment_of v vs, (names_environment (all_names v) (all_values v vs) v.constants.now named, h))
found_then place g v vs named (Err e) h = tt

-- what is found by the rule of an action's name is what the step of the action meets
pub fault_found_in : {A E : Type 0} (place : A → PlainPlace) (g : A → PlainFault) (c : NodeState) (a : Action) (r : PlainRule) → rule_named (action_name a) c.program.automaton.rules ≡ Some r → (found : Result (Option A) E) →
    IfOk found (λ o. IfSome o (λ f. IsFaultAt (place f) (rule_bindings entry_condition r a c) (rule_bindings guard_or_effect r a c) (g f))) →
    IfOk found (λ o. IfSome o (λ f. IsFaulted (Some (conf.Node c)) a (place f) (g f)))
fault_found_in place g c a r named (Ok None) h = tt
fault_found_in place g c a r named (Ok (Some f)) h = record { state = c; is = refl; rule = r; named = named; fault = h }
fault_found_in place g c a r named (Err e) h = tt
