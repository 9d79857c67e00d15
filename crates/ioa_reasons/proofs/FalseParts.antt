-- A part of a test that is found is false.
use Rattle.std.proofs.Common.{◌≡◌, ◌⊎◌, inl, inr, Bool, true, false, if◌then◌else◌, Option, Some, None, Result, Ok, Err, refl, sym, ap, subst}
use Rattle.std.specs.Option.{option_map, option_or}
use Rattle.std.specs.Prelude.{IfOk, IfSome}
use Rattle.ioa_values.specs.Data.{Data, truth}
use Rattle.ioa_values.specs.DataOrder.{same}
use Rattle.ioa_operators.specs.declared.fault.TermFault.{TermFault}
use Rattle.ioa_operators.specs.declared.operator.BinaryOperator.{BinaryOperator}
use Rattle.ioa_terms.specs.Bindings.{Bindings}
use Rattle.ioa_terms.specs.Meaning.{answer}
use Rattle.ioa_terms.specs.PlainTerm.{two}
use Rattle.ioa_values.proofs.Equality.{same_equal}
use Rattle.ioa_actions.specs.ActionParts.{action_name}
use Rattle.ioa_actions.specs.declared.action.Action.{Action}
use Rattle.ioa_source.specs.Sides.{CheckedTerm}
use Rattle.ioa_system.specs.InView.{entry_condition, guard_or_effect}
use Rattle.ioa_system.specs.Parts.{PlainRule, rule_named}
use Rattle.ioa_compose.specs.declared.configuration.Conf.TheVariants as conf
use Rattle.ioa_transitions.specs.NodeState.{NodeState}
use Rattle.ioa_transitions.specs.NodeStep.{rule_bindings}
use Rattle.ioa_reasons.specs.Tests.{FalsePart, IsFalsified, false_by, false_part, false_part_of, first_false, if_false, is_and, is_false, read_by}
use Rattle.ioa_reasons.specs.declared.reason.Test.{Test}
use Rattle.ioa_reasons.specs.declared.reason.Test.TheVariants.{Where, Guard}

is_it : (r : Result Data TermFault) → is_false r ≡ true → r ≡ Ok (truth false)
is_it (Ok v) h = ap Ok (same_equal v (truth false) h)
is_it (Err f) h = absurd (cc)

if_it : (t u : CheckedTerm) (e : Bindings) (b : Bool) → is_false (answer t e) ≡ b → (if b then Some t else None) ≡ Some u → answer u e ≡ Ok (truth false)
if_it t u e true h g = let same : t ≡ u = cc in subst (λ (x : CheckedTerm). answer x e ≡ Ok (truth false)) same (is_it (answer t e) h)
if_it t u e false h g = absurd (cc)

-- of two that may be there, what is taken is the one or the other
pub either : {A : Type 0} (x y : Option A) (u : A) → option_or x y ≡ Some u → (x ≡ Some u) ⊎ (y ≡ Some u)
either (Some t) y u h = inl h
either None y u h = inr h

by_and : (op : BinaryOperator) (a b u : CheckedTerm) (e : Bindings) (q : Bool) → (false_part a e ≡ Some u → answer u e ≡ Ok (truth false)) → (false_part b e ≡ Some u → answer u e ≡ Ok (truth false)) →
    (if q then option_or (false_part a e) (false_part b e) else if_false (two op a b) e) ≡ Some u → answer u e ≡ Ok (truth false)
by_and op a b u e true f g h = elim (either (false_part a e) (false_part b e) u h) [ inl x ↦ f x | inr y ↦ g y ]
by_and op a b u e false f g h = if_it (two op a b) u e (is_false (answer (two op a b) e)) refl h

pub part_is_false : (t u : CheckedTerm) (e : Bindings) → false_part t e ≡ Some u → answer u e ≡ Ok (truth false)
part_is_false (two op a b) u e h = by_and op a b u e (is_and op) (λ g. part_is_false a u e g) (λ g. part_is_false b u e g) h
part_is_false t u e h = if_it t u e (is_false (answer t e)) refl h

by_part : (test : Test) (t : CheckedTerm) (e : Bindings) (f : FalsePart) (o : Option CheckedTerm) → false_part t e ≡ o → option_map (false_by test e) o ≡ Some f →
    (f.test ≡ test) × (answer f.part e ≡ Ok (truth false))
by_part test t e f None g h = absurd (cc)
by_part test t e f (Some u) g h =
    let same : false_by test e u ≡ f = cc in
    subst (λ (x : FalsePart). (x.test ≡ test) × (answer x.part e ≡ Ok (truth false))) same (refl, part_is_false t u e g)

of_test : (test : Test) (o : Option CheckedTerm) (e : Bindings) (f : FalsePart) → false_part_of test o e ≡ Some f → (f.test ≡ test) × (answer f.part e ≡ Ok (truth false))
of_test test None e f h = absurd (cc)
of_test test (Some t) e f h = by_part test t e f (false_part t e) refl h

read_in : (test : Test) (e b c : Bindings) (f : FalsePart) → read_by test e b ≡ c → (f.test ≡ test) × (answer f.part c ≡ Ok (truth false)) → answer f.part (read_by f.test e b) ≡ Ok (truth false)
read_in test e b c f same h =
    let there : answer f.part (read_by test e b) ≡ Ok (truth false) = subst (λ (x : Bindings). answer f.part x ≡ Ok (truth false)) (sym same) h.1 in
    subst (λ (t : Test). answer f.part (read_by t e b) ≡ Ok (truth false)) (sym h.0) there

-- the first false part of a rule is false in what its test reads
pub first_is_false : (r : PlainRule) (e b : Bindings) (f : FalsePart) → first_false r e b ≡ Some f → answer f.part (read_by f.test e b) ≡ Ok (truth false)
first_is_false r e b f h = elim (either (false_part_of Where r.entry.condition e) (false_part_of Guard r.transition.pre b) f h) [
  | inl x ↦ read_in Where e b e f refl (of_test Where r.entry.condition e f x)
  | inr y ↦ read_in Guard e b b f refl (of_test Guard r.transition.pre b f y)
]

-- what is found by the rule of an action's name is what the node refuses the action for
pub found_in : {A E : Type 0} (g : A → FalsePart) (c : NodeState) (a : Action) (r : PlainRule) → rule_named (action_name a) c.program.automaton.rules ≡ Some r → (found : Result (Option A) E) →
    IfOk found (λ o. IfSome o (λ f. first_false r (rule_bindings entry_condition r a c) (rule_bindings guard_or_effect r a c) ≡ Some (g f))) →
    IfOk found (λ o. IfSome o (λ f. IsFalsified (Some (conf.Node c)) a (g f)))
found_in g c a r named (Ok None) h = tt
found_in g c a r named (Ok (Some f)) h = record {
  state = c;
  is = refl;
  rule = r;
  named = named;
  first = h;
  is_false = first_is_false r (rule_bindings entry_condition r a c) (rule_bindings guard_or_effect r a c) (g f) h;
}
found_in g c a r named (Err e) h = tt
