-- An argument that is found not to be of the sort of its parameter.
use Rattle.std.proofs.Common.{◌≡◌, ℕ, zero, suc, List, [], ◌∷◌, Option, Some, None, Result, Ok, Err, refl, sym, arith, drop, length, map}
use Rattle.std.specs.Prelude.{IfOk, IfSome, min}
use Rattle.std.specs.Option.{option_map}
use Rattle.ioa_values.specs.Data.{Data}
use Rattle.ioa_actions.specs.ActionParts.{action_arguments, action_name}
use Rattle.ioa_actions.specs.declared.action.Action.{Action}
use Rattle.ioa_source.specs.Sides.{CheckedParameter}
use Rattle.ioa_system.specs.Parts.{PlainRule, rule_named}
use Rattle.ioa_compose.specs.declared.configuration.Conf.TheVariants as conf
use Rattle.ioa_transitions.specs.NodeState.{NodeState}
use Rattle.ioa_reasons.specs.Unfit.{IsUnfit, first_unfit}

-- if the parameters or the arguments end, none is left
pub first_unfit_end : {A : Type 0} (f : A → CheckedParameter) (ps : List A) (vs : List Data) (i : ℕ) → i ≡ min (length ps) (length vs) → first_unfit (map f (drop i ps)) (drop i vs) ≡ None
first_unfit_end f [] vs zero h = refl
first_unfit_end f [] vs (suc i) h = refl
first_unfit_end f (p ∷ ps) [] zero h = refl
first_unfit_end f (p ∷ ps) [] (suc i) h = absurd (omega arith)
first_unfit_end f (p ∷ ps) (v ∷ vs) zero h = absurd (omega arith)
first_unfit_end f (p ∷ ps) (v ∷ vs) (suc i) h = first_unfit_end f ps vs i (omega arith)

-- what is found by the rule of an action's name is an argument of the action
pub unfit_found_in : {A E : Type 0} (g : A → List ℕ × Data) (c : NodeState) (a : Action) (r : PlainRule) → rule_named (action_name a) c.program.automaton.rules ≡ Some r → (found : Result (Option A) E) →
    IfOk found (λ o. option_map g o ≡ first_unfit r.entry.parameters (action_arguments a)) → IfOk found (λ o. IfSome o (λ u. IsUnfit (Some (conf.Node c)) a (g u).0 (g u).1))
unfit_found_in g c a r named (Ok None) h = tt
unfit_found_in g c a r named (Ok (Some u)) h = record { state = c; is = refl; rule = r; found = named; unfit = sym h }
unfit_found_in g c a r named (Err e) h = tt
