-- Evaluation step by step, each step checked when it is made (form). It is equal to the meaning, by a lemma.
use Rattle.std.specs.Prelude.{ℕ, if◌then◌else◌, ◌++◌, Bool, true, false, List, [], ◌∷◌, Option, Some, None, Result, Ok, Err}
use Rattle.std.specs.Option.{option_and_then}
use Rattle.ioa_values.specs.Outcome.{and_then}
use Rattle.ioa_values.specs.Data.{Data, number, truth, as_truth}
use Rattle.ioa_operators.specs.Operators.{unary_value, binary_value, left_decision}
use Rattle.ioa_operators.specs.Shapes.{PlainShape, has_shape, display_value, field_value, with_field}
use Rattle.ioa_operators.specs.RangeCheck.{range_check, checked_result}
use Rattle.ioa_terms.specs.declared.name.Name.{Name}
use Rattle.ioa_terms.specs.declared.name.Name.TheVariants.{Word}
use Rattle.ioa_terms.specs.Bindings.{Bindings, lookup, put}
use Rattle.ioa_terms.specs.Meaning.{named_call_value}
use Rattle.ioa_terms.specs.Performance.{target_name, target_shape, updated_map, fitting_value, with_chosen}
use Rattle.ioa_terms.specs.PlainTerm as plain
use Rattle.ioa_terms.specs.PlainTerm.{PlainTerm, PlainTerms, name, one, two, call, display, field, no_terms, term}
use Rattle.ioa_terms.specs.PlainTerm.{PlainTarget, variable, at_key, at_field}
use Rattle.ioa_terms.specs.PlainTerm.{PlainStatement, PlainStatements, PlainArms, assign, branch, loop, fire, choosing, PlainChoice}
use Rattle.ioa_terms.specs.PlainTerm.{no_statements, statement, no_arms, arm}
use Rattle.ioa_operators.specs.declared.operator.BinaryOperator.{BinaryOperator}
use Rattle.ioa_operators.specs.declared.shape.Shape.{Shape}
use Rattle.ioa_operators.specs.declared.fault.TermFault.{TermFault}
use Rattle.ioa_terms.specs.declared.choices.EffectFault.{EffectFault}
use Rattle.ioa_terms.specs.declared.choices.EffectFault.TheVariants as effect
use Rattle.ioa_terms.specs.Choices.{Source, given, yielded, Left, left, Chosen, chosen, effect_fault, in_effect}

-- what the left side decides, or else the operator with the result of the right side
abbrev pub with_right : BinaryOperator → Data → Option Data → Result Data TermFault → Result Data TermFault
with_right op x (Some d) right = checked_result (Some d)
with_right op x None right = and_then right (λ y. checked_result (binary_value op x y))

abbrev mutual
  -- the value of a term, each part checked before the next is evaluated
  pub stepwise_answer : {N C : Type 0} → PlainTerm N C Shape → Bindings → Result Data TermFault
  stepwise_answer (plain.number n) e = checked_result (Some (number n))
  stepwise_answer (plain.truth b) e = checked_result (Some (truth b))
  stepwise_answer (name x at) e = checked_result (lookup x e)
  stepwise_answer (one op a) e = and_then (stepwise_answer a e) (λ x. checked_result (unary_value op x))
  stepwise_answer (two op a b) e =
      and_then (stepwise_answer a e) (λ x. with_right op x (left_decision op x) (stepwise_answer b e))
  stepwise_answer (call w c ts) e = and_then (stepwise_answers ts e) (λ vs. checked_result (named_call_value w e vs))
  stepwise_answer (display form d ts) e =
      and_then (stepwise_answers ts e) (λ vs. checked_result (display_value form d vs))
  stepwise_answer (field a w d) e = and_then (stepwise_answer a e) (λ x. checked_result (field_value d w x))

  -- the values of terms, one after another
  pub stepwise_answers : {N C : Type 0} → PlainTerms N C Shape → Bindings → Result (List Data) TermFault
  stepwise_answers no_terms e = Ok []
  stepwise_answers (term t more) e =
      and_then (stepwise_answer t e) (λ v. and_then (stepwise_answers more e) (λ vs. Ok (v ∷ vs)))

-- the truth value of a test
abbrev pub stepwise_test : {N C : Type 0} → PlainTerm N C Shape → Bindings → Result Bool TermFault
stepwise_test t e = and_then (stepwise_answer t e) (λ v. range_check [] (as_truth v))

-- the new value of a variable, whatever its shape
abbrev pub stepwise_assignment : {N C : Type 0} →
    PlainTarget N C Shape → PlainTerm N C Shape → Bindings → Result Data TermFault
stepwise_assignment (variable x at d) t e = stepwise_answer t e
stepwise_assignment (at_key x at d k) t e =
    and_then (stepwise_answer k e)
    (λ i. and_then (stepwise_answer t e) (λ v. checked_result (option_and_then (updated_map i v) (lookup (Word x) e))))
stepwise_assignment (at_field x at d f) t e =
    and_then (stepwise_answer t e)
    (λ v. checked_result (option_and_then (with_field d f v) (lookup (Word x) e)))

-- the environment in which a variable has a new value; `Undefined (1)` if the value lacks the variable's shape
abbrev pub put_fitting_value : Name → PlainShape → Bindings → Data → Result Bindings TermFault
put_fitting_value x s e v = and_then (range_check [] (fitting_value s v)) (λ w. Ok (put x w e))

-- the environment after an assignment
abbrev pub stepwise_assigned : {N C : Type 0} →
    PlainTarget N C Shape → PlainTerm N C Shape → Bindings → Result Bindings TermFault
stepwise_assigned p t e =
    and_then (stepwise_assignment p t e) (put_fitting_value (target_name p) (target_shape p) e)

-- the next value that is given, if it is of a shape
abbrev pub given_next : PlainShape → List Data → Result Chosen EffectFault
given_next s [] = Err effect.NoChoice
given_next s (v ∷ vs) = if has_shape s v then Ok (chosen v (given vs)) else Err effect.NoChoice

-- a value for a choice: given, or yielded by a term
abbrev pub stepwise_chosen : {N C : Type 0} →
    PlainShape → PlainTerm N C Shape → Bindings → Source → Result Chosen EffectFault
stepwise_chosen s t e (given vs) = given_next s vs
stepwise_chosen s t e (yielded vs) =
    and_then (in_effect (and_then (stepwise_answer t e) (λ v. range_check [] (fitting_value s v))))
    (λ v. Ok (chosen v (yielded (vs ++ v ∷ []))))

-- a choice is allowed if its condition is true
abbrev pub stepwise_permitted : Result Bool TermFault → Result (Unit {0}) EffectFault
stepwise_permitted (Ok true) = Ok tt
stepwise_permitted (Ok false) = Err effect.NoChoice
stepwise_permitted (Err f) = Err (effect_fault f)

abbrev pub stepwise_taken : {N C : Type 0} → PlainChoice N C Shape → Left → Result Chosen EffectFault
stepwise_taken c l =
    and_then (stepwise_chosen c.shape c.yields l.bindings l.source)
    (λ v. and_then (stepwise_permitted (stepwise_test c.condition (with_chosen c.name v.value l.bindings))) (λ _. Ok v))

-- what is left if a variable gets a value
abbrev pub stepwise_put : Name → PlainShape → Bindings → Source → Data → Result Left EffectFault
stepwise_put x s e c v = and_then (in_effect (put_fitting_value x s e v)) (λ f. Ok (left f c))

abbrev pub stepwise_put_checked : Name → PlainShape → Bindings → Source → Option Data → Result Left EffectFault
stepwise_put_checked x s e c o = and_then (in_effect (checked_result o)) (stepwise_put x s e c)

-- what a choice leaves
abbrev pub stepwise_choose : {N C : Type 0} →
    PlainTarget N C Shape → PlainChoice N C Shape → Left → Result Left EffectFault
stepwise_choose (variable x at d) c l =
    and_then (stepwise_taken c l) (λ v. stepwise_put (Word x) d l.bindings v.source v.value)
stepwise_choose (at_key x at d k) c l =
    and_then (in_effect (stepwise_answer k l.bindings))
    (λ i. and_then (stepwise_taken c l)
    (λ v. stepwise_put_checked (Word x) d l.bindings v.source
    (option_and_then (updated_map i v.value) (lookup (Word x) l.bindings))))
stepwise_choose (at_field x at d f) c l =
    and_then (stepwise_taken c l)
    (λ v. stepwise_put_checked (Word x) d l.bindings v.source
    (option_and_then (with_field d f v.value) (lookup (Word x) l.bindings)))

-- what is left after an assignment
abbrev pub stepwise_assign : Result Bindings TermFault → Source → Result Left EffectFault
stepwise_assign r c = and_then (in_effect r) (λ e. Ok (left e c))

-- one of two, by the result of a test
abbrev pub if_answered :
    Result Bool TermFault → Result Left EffectFault → Result Left EffectFault → Result Left EffectFault
if_answered (Ok true) held other = held
if_answered (Ok false) held other = other
if_answered (Err f) held other = Err (effect_fault f)

abbrev mutual
  -- what one statement leaves
  pub stepwise_one : {N C : Type 0} → PlainStatement N C Shape → Left → Result Left EffectFault
  stepwise_one (assign p t) l = stepwise_assign (stepwise_assigned p t l.bindings) l.source
  stepwise_one (branch arms rest) l = stepwise_choice arms (stepwise_all rest l) l
  stepwise_one (loop t body) l = Err effect.Undefined
  stepwise_one (fire f) l = Err effect.Undefined
  stepwise_one (choosing c) l = stepwise_choose c.target c l

  -- what the first arm leaves whose test is true, or the result of the rest if none is
  pub stepwise_choice : {N C : Type 0} →
      PlainArms N C Shape → Result Left EffectFault → Left → Result Left EffectFault
  stepwise_choice no_arms rest l = rest
  stepwise_choice (arm t body more) rest l =
      if_answered (stepwise_test t l.bindings) (stepwise_all body l) (stepwise_choice more rest l)

  -- what statements leave in order, each seeing what the one before left
  pub stepwise_all : {N C : Type 0} → PlainStatements N C Shape → Left → Result Left EffectFault
  stepwise_all no_statements l = Ok l
  stepwise_all (statement s more) l = and_then (stepwise_one s l) (stepwise_all more)
