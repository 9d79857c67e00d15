-- What terms mean (profile): over numbers without bound, partial, evaluated from left to right.
use Rattle.std.specs.Prelude.{ℕ, Bool, if◌then◌else◌, codes, List, [], ◌∷◌, ◌++◌, Option, Some, None, Result}
use Rattle.std.specs.Option.{option_and_then, option_map, option_or}
use Rattle.ioa_values.specs.Data.{Data, number, truth}
use Rattle.ioa_operators.specs.Operators.{unary_value, binary_value, left_decision, function_named, call_value}
use Rattle.ioa_operators.specs.Shapes.{display_value, field_value}
use Rattle.ioa_operators.specs.RangeCheck.{range_check, result_of}
use Rattle.ioa_terms.specs.Bindings.{Bindings, same_word, lookup}
use Rattle.ioa_terms.specs.Inboxes.{inboxes_word}
use Rattle.ioa_terms.specs.declared.name.Name.TheVariants.{Word}
use Rattle.ioa_terms.specs.PlainTerm as plain
use Rattle.ioa_terms.specs.PlainTerm.{PlainTerm, PlainTerms, name, one, two, call, display, field, no_terms, term}
use Rattle.ioa_operators.specs.declared.operator.BinaryOperator.{BinaryOperator}
use Rattle.ioa_operators.specs.declared.operator.BinaryOperator.TheVariants.{At}
use Rattle.ioa_operators.specs.declared.operator.Function.{Function}
use Rattle.ioa_operators.specs.declared.shape.Shape.{Shape}
use Rattle.ioa_operators.specs.declared.fault.TermFault.{TermFault}

-- whether a call is of `inbox`
abbrev pub is_inbox_word : List ℕ → Bool
is_inbox_word w = same_word w (codes "inbox")

-- the value of `inbox`: what the map of the inboxes has at the number of a node, if the inboxes are in view
abbrev pub inbox_value : List Data → Bindings → Option Data
inbox_value (v ∷ []) e = option_and_then (λ m. binary_value At m v) (lookup (Word inboxes_word) e)
inbox_value vs e = None

-- the value of a call: of a function, or of `inbox`, which is the name of none
abbrev pub call_by : Option Function → List ℕ → Bindings → List Data → Option Data
call_by (Some f) w e vs = call_value f vs
call_by None w e vs = if is_inbox_word w then inbox_value vs e else None

abbrev pub named_call_value : List ℕ → Bindings → List Data → Option Data
named_call_value w e vs = call_by (function_named w) w e vs

abbrev mutual
  -- the value of a term in an environment, if it has one; the right side of an operator counts only if the left one
  -- does not decide
  pub value : {N C : Type 0} → PlainTerm N C Shape → Bindings → Option Data
  value (plain.number n) e = Some (number n)
  value (plain.truth b) e = Some (truth b)
  value (name x at) e = lookup x e
  value (one op a) e = option_and_then (unary_value op) (value a e)
  value (two op a b) e =
      option_and_then
      (λ x. option_or (left_decision op x) (option_and_then (binary_value op x) (value b e)))
      (value a e)
  value (call w c ts) e = option_and_then (named_call_value w e) (values ts e)
  value (display form d ts) e = option_and_then (display_value form d) (values ts e)
  value (field a w d) e = option_and_then (field_value d w) (value a e)

  -- the values of terms, if each has one
  pub values : {N C : Type 0} → PlainTerms N C Shape → Bindings → Option (List Data)
  values no_terms e = Some []
  values (term t more) e = option_and_then (λ v. option_map (λ vs. v ∷ vs) (values more e)) (value t e)

-- what comes after a part: nothing if the part has no value
abbrev pub if_any : Option Data → List Data → List Data
if_any None ds = []
if_any (Some v) ds = ds

-- what comes after a part that may decide: nothing if it does
abbrev pub if_none : Option Data → List Data → List Data
if_none None ds = ds
if_none (Some v) ds = []

-- what comes after the left side of an operator: nothing if that has no value or decides
abbrev pub if_open : BinaryOperator → Option Data → List Data → List Data
if_open op None ds = []
if_open op (Some x) ds = if_none (left_decision op x) ds

abbrev mutual
  -- the results of the parts of a term that are evaluated: left part, right part, whole, up to the first that has no
  -- value
  pub numbers_met : {N C : Type 0} → PlainTerm N C Shape → Bindings → List Data
  numbers_met (plain.number n) e = number n ∷ []
  numbers_met (plain.truth b) e = truth b ∷ []
  numbers_met (name x at) e = result_of (lookup x e)
  numbers_met (one op a) e = numbers_met a e ++ result_of (value (one op a) e)
  numbers_met (two op a b) e =
      numbers_met a e ++ (if_open op (value a e) (numbers_met b e) ++ result_of (value (two op a b) e))
  numbers_met (call w c ts) e = all_numbers_met ts e ++ result_of (value (call w c ts) e)
  numbers_met (display form d ts) e = all_numbers_met ts e ++ result_of (value (display form d ts) e)
  numbers_met (field a w d) e = numbers_met a e ++ result_of (value (field a w d) e)

  -- the same of terms, one after another
  pub all_numbers_met : {N C : Type 0} → PlainTerms N C Shape → Bindings → List Data
  all_numbers_met no_terms e = []
  all_numbers_met (term t more) e = numbers_met t e ++ if_any (value t e) (all_numbers_met more e)

-- what the evaluation of a term returns: `Range (2)` if a number met lies outside 64 bits, else `Undefined (1)` if
-- there is no value, else the value
abbrev pub answer : {N C : Type 0} → PlainTerm N C Shape → Bindings → Result Data TermFault
answer t e = range_check (numbers_met t e) (value t e)
