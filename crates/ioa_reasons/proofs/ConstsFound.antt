-- An argument that is found to be another value than its `const`.
use Rattle.std.proofs.Common.{◌≡◌, inl, inr, ℕ, zero, suc, ◌+◌, Bool, true, false, if◌then◌else◌, List, [], ◌∷◌, Option, Some, None, Result, Ok, Err, refl, sym, subst, arith, drop, length, map}
use Rattle.std.specs.Prelude.{IfOk, IfSome, min}
use Rattle.ioa_values.specs.Data.{Data}
use Rattle.ioa_values.specs.DataOrder.{same}
use Rattle.ioa_values.proofs.Equality.{same_itself}
use Rattle.ioa_operators.specs.declared.fault.TermFault.{TermFault}
use Rattle.ioa_terms.specs.Bindings.{Bindings}
use Rattle.ioa_terms.specs.Meaning.{answer}
use Rattle.ioa_actions.specs.ActionParts.{action_arguments, action_name}
use Rattle.ioa_actions.specs.declared.action.Action.{Action}
use Rattle.ioa_source.specs.PlainText.{const, named}
use Rattle.ioa_source.specs.Sides.{CheckedParameter, CheckedTerm}
use Rattle.ioa_system.specs.InView.{given_bindings}
use Rattle.ioa_system.specs.Parts.{PlainRule, rule_named}
use Rattle.ioa_compose.specs.declared.configuration.Conf.TheVariants as conf
use Rattle.ioa_transitions.specs.NodeState.{NodeState}
use Rattle.ioa_reasons.specs.OtherConsts.{IsFirstOther, IsOtherConst, IsUnlike, first_other, other_at, other_beside}
use Rattle.ioa_reasons.specs.declared.other_const.OtherConst.{OtherConst}
use Rattle.ioa_reasons.proofs.FalseParts.{either}

-- if the parameters or the arguments end, none is left
pub first_other_end : {A : Type 0} (f : A → CheckedParameter) (b : Bindings) (k : ℕ) (ps : List A) (vs : List Data) (i : ℕ) → i ≡ min (length ps) (length vs) → first_other b k (map f (drop i ps)) (drop i vs) ≡ None
first_other_end f b k [] vs zero h = refl
first_other_end f b k [] vs (suc i) h = refl
first_other_end f b k (p ∷ ps) [] zero h = refl
first_other_end f b k (p ∷ ps) [] (suc i) h = absurd (omega arith)
first_other_end f b k (p ∷ ps) (v ∷ vs) zero h = absurd (omega arith)
first_other_end f b k (p ∷ ps) (v ∷ vs) (suc i) h = first_other_end f b k ps vs i (omega arith)

-- what is not the same is another value
unlike_values : (u v : Data) → same u v ≡ false → u ≡ v → ⊥
unlike_values u v h is =
    let itself : same u v ≡ true = subst (λ (x : Data). same u x ≡ true) is (same_itself u) in
    absurd (cc)

-- the first argument is another value than its `const`
by_test : (b : Bindings) (k : ℕ) (t : CheckedTerm) (ps : List CheckedParameter) (u v : Data) (vs : List Data) (o : OtherConst) (q : Bool) → answer t b ≡ Ok u → same u v ≡ q →
    (if q then None else Some (record { position = k; argument = v; constant = u })) ≡ Some o → IsUnlike b k (const t ∷ ps) (v ∷ vs) o
by_test b k t ps u v vs o true value h g = absurd (cc)
by_test b k t ps u v vs o false value h g =
    let made : OtherConst = record { position = k; argument = v; constant = u } in
    let is : made ≡ o = cc in
    subst (λ (x : OtherConst). IsUnlike b k (const t ∷ ps) (v ∷ vs) x) is (record {
      before = 0;
      position = omega (arith);
      term = t;
      parameter = refl;
      value = value;
      argument = refl;
      other = unlike_values u v h;
    })

by_answer : (b : Bindings) (k : ℕ) (t : CheckedTerm) (ps : List CheckedParameter) (v : Data) (vs : List Data) (o : OtherConst) (r : Result Data TermFault) → answer t b ≡ r → other_beside r k v ≡ Some o →
    IsUnlike b k (const t ∷ ps) (v ∷ vs) o
by_answer b k t ps v vs o (Ok u) value h = by_test b k t ps u v vs o (same u v) value refl h
by_answer b k t ps v vs o (Err f) value h = absurd (cc)

here : (b : Bindings) (k : ℕ) (p : CheckedParameter) (ps : List CheckedParameter) (v : Data) (vs : List Data) (o : OtherConst) → other_at b k p v ≡ Some o → IsUnlike b k (p ∷ ps) (v ∷ vs) o
here b k (const t) ps v vs o h = by_answer b k t ps v vs o (answer t b) refl h
here b k (named d) ps v vs o h = absurd (cc)

-- one of those behind it is
behind : (b : Bindings) (k : ℕ) (p : CheckedParameter) (ps : List CheckedParameter) (v : Data) (vs : List Data) (o : OtherConst) → IsUnlike b (k + 1) ps vs o → IsUnlike b k (p ∷ ps) (v ∷ vs) o
behind b k p ps v vs o h = record {
  before = suc h.before;
  position = omega (arith, h.position);
  term = h.term;
  parameter = h.parameter;
  value = h.value;
  argument = h.argument;
  other = h.other;
}

-- what is found is another value than its `const`
pub first_is_unlike : (b : Bindings) (k : ℕ) (ps : List CheckedParameter) (vs : List Data) (o : OtherConst) → first_other b k ps vs ≡ Some o → IsUnlike b k ps vs o
first_is_unlike b k [] vs o h = absurd (cc)
first_is_unlike b k (p ∷ ps) [] o h = absurd (cc)
first_is_unlike b k (p ∷ ps) (v ∷ vs) o h = elim (either (other_at b k p v) (first_other b (k + 1) ps vs) o h) [
  | inl x ↦ here b k p ps v vs o x
  | inr y ↦ behind b k p ps v vs o (first_is_unlike b (k + 1) ps vs o y)
]

-- what is found beside as many parameters is the first of arguments
pub first_found : {E : Type 0} (b : Bindings) (ps : List CheckedParameter) (vs : List Data) (found : Result (Option OtherConst) E) → length ps ≡ length vs →
    IfOk found (λ o. o ≡ first_other b 1 ps vs) → IfOk found (λ o. IfSome o (λ c. IsFirstOther b ps vs c))
first_found b ps vs (Ok None) many h = tt
first_found b ps vs (Ok (Some o)) many h = record { many = many; first = sym h }
first_found b ps vs (Err f) many h = tt

-- and, by the rule of the action's name, the first of an action at a node
pub const_found_in : {E : Type 0} (c : NodeState) (a : Action) (r : PlainRule) → rule_named (action_name a) c.program.automaton.rules ≡ Some r → (found : Result (Option OtherConst) E) →
    IfOk found (λ o. IfSome o (λ x. IsFirstOther (given_bindings c.program.automaton c.program.arguments) r.entry.parameters (action_arguments a) x)) → IfOk found (λ o. IfSome o (λ x. IsOtherConst (Some (conf.Node c)) a x))
const_found_in c a r there (Ok None) h = tt
const_found_in c a r there (Ok (Some o)) h = record {
  state = c;
  is = refl;
  rule = r;
  found = there;
  first = h;
  unlike = first_is_unlike (given_bindings c.program.automaton c.program.arguments) 1 r.entry.parameters (action_arguments a) o h.first;
}
const_found_in c a r there (Err e) h = tt
