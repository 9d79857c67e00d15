-- Evaluation one step after another is the meaning.
use Rattle.std.proofs.Common.{◌≡◌, ◌<◌, ◌≤◌, arith, length, get_or, Bool, true, false, List, [], ◌∷◌, ◌++◌, Option, Some, None, Result, Ok, Err, refl, sym, ap, ◌∙◌, if◌then◌else◌, append-nil}
use Rattle.std.specs.Prelude.{◌&&◌}
use Rattle.std.specs.List.{list_all}
use Rattle.std.proofs.lemmas.List.Folds.{list_all-append}
use Rattle.std.specs.Option.{option_and_then, option_map, option_or, ok_or}
use Rattle.ioa_values.specs.Data.{Data, is_within}
use Rattle.ioa_values.specs.Outcome.{and_then}
use Rattle.ioa_operators.specs.Operators.{unary_value, binary_value, call_two, call_value, left_decision}
use Rattle.ioa_operators.specs.Shapes.{display_value, field_value}
use Rattle.ioa_operators.specs.RangeCheck.{range_check, result_of, checked_result}
use Rattle.ioa_terms.specs.Bindings.{Bindings}
use Rattle.ioa_terms.specs.PlainTerm as plain
use Rattle.ioa_terms.specs.PlainTerm.{PlainTerm, PlainTerms, name, one, two, call, display, field, no_terms, term}
use Rattle.ioa_terms.specs.Meaning.{answer, numbers_met, all_numbers_met, value, values, named_call_value, if_any, if_none, if_open}
use Rattle.ioa_terms.specs.Stepwise.{stepwise_answer, stepwise_answers, with_right}
use Rattle.ioa_operators.specs.declared.operator.BinaryOperator.{BinaryOperator}
use Rattle.ioa_operators.specs.declared.operator.Function.{Function}
use Rattle.ioa_operators.specs.declared.shape.Shape.{Shape}
use Rattle.ioa_operators.specs.declared.fault.TermFault.{TermFault}
use Rattle.ioa_operators.specs.declared.fault.TermFault.TheVariants.{Undefined, Range}

pub two_tests : {X : Type 0} (a b : Bool) (x y : X) → (if a && b then x else y) ≡ (if a then (if b then x else y) else y)
two_tests true b x y = refl
two_tests false b x y = refl

-- what is met first is checked first
pub range_check_append : {A : Type 0} (xs ys : List Data) (v : Option A) → range_check (xs ++ ys) v ≡ (if list_all is_within xs then range_check ys v else Err Range)
range_check_append xs ys v = rw (list_all-append is_within xs ys) (two_tests (list_all is_within xs) (list_all is_within ys) (ok_or v Undefined) (Err Range))

tested_none : {A B : Type 0} (b : Bool) (f : A → Result B TermFault) → and_then (if b then Err Undefined else Err Range) f ≡ (if b then Err Undefined else Err Range)
tested_none true f = refl
tested_none false f = refl

-- nothing comes after a part that has no value
pub range_check_none : {A B : Type 0} (ds : List Data) (f : A → Result B TermFault) → and_then (range_check ds None) f ≡ range_check ds None
range_check_none ds f = tested_none (list_all is_within ds) f

tested_some : {A B : Type 0} (b : Bool) (x : A) (f : A → Result B TermFault) → and_then (if b then Ok x else Err Range) f ≡ (if b then f x else Err Range)
tested_some true x f = refl
tested_some false x f = refl

-- what comes after a part that has a value
pub range_check_some : {A B : Type 0} (ds : List Data) (x : A) (f : A → Result B TermFault) → and_then (range_check ds (Some x)) f ≡ (if list_all is_within ds then f x else Err Range)
range_check_some ds x f = tested_some (list_all is_within ds) x f

-- a value that is made of a part's
pub made_of : {A B : Type 0} (ds : List Data) (v : Option A) (f : A → B) → and_then (range_check ds v) (λ x. Ok (f x)) ≡ range_check ds (option_map f v)
made_of ds None f = range_check_none ds (λ x. Ok (f x))
made_of ds (Some x) f = range_check_some ds x (λ x. Ok (f x))

-- a step from a part's value
one_part : {A : Type 0} (f : A → Option Data) (da : List Data) (va : Option A) → and_then (range_check da va) (λ x. checked_result (f x)) ≡ range_check (da ++ result_of (option_and_then f va)) (option_and_then f va)
one_part f da None = rw (append-nil da) (range_check_none da (λ x. checked_result (f x)))
one_part f da (Some x) = range_check_some da x (λ x. checked_result (f x)) ∙ sym (range_check_append da (result_of (f x)) (f x))

-- the right side, which may be evaluated or not
right_part : (op : BinaryOperator) (x : Data) (o : Option Data) (db : List Data) (vb : Option Data) → with_right op x o (range_check db vb) ≡ range_check (if_none o db ++ result_of (option_or o (option_and_then (binary_value op x) vb))) (option_or o (option_and_then (binary_value op x) vb))
right_part op x None db vb = one_part (binary_value op x) db vb
right_part op x (Some d) db vb = refl

two_parts : (op : BinaryOperator) (da db : List Data) (va vb : Option Data) → and_then (range_check da va) (λ x. with_right op x (left_decision op x) (range_check db vb)) ≡ range_check (da ++ (if_open op va db ++ result_of (option_and_then (λ x. option_or (left_decision op x) (option_and_then (binary_value op x) vb)) va))) (option_and_then (λ x. option_or (left_decision op x) (option_and_then (binary_value op x) vb)) va)
two_parts op da db None vb = rw (append-nil da) (range_check_none da (λ x. with_right op x (left_decision op x) (range_check db vb)))
two_parts op da db (Some x) vb =
    let right : Option Data = option_or (left_decision op x) (option_and_then (binary_value op x) vb) in
    range_check_some da x (λ x. with_right op x (left_decision op x) (range_check db vb))
    ∙ ap (λ (r : Result Data TermFault). if list_all is_within da then r else Err Range) (right_part op x (left_decision op x) db vb)
    ∙ sym (range_check_append da (if_none (left_decision op x) db ++ result_of right) right)

one_more : (da db : List Data) (va : Option Data) (vb : Option (List Data)) → and_then (range_check da va) (λ v. and_then (range_check db vb) (λ vs. Ok (v ∷ vs))) ≡ range_check (da ++ if_any va db) (option_and_then (λ v. option_map (λ vs. v ∷ vs) vb) va)
one_more da db None vb = rw (append-nil da) (range_check_none da (λ v. and_then (range_check db vb) (λ vs. Ok (v ∷ vs))))
one_more da db (Some v) vb =
    range_check_some da v (λ v. and_then (range_check db vb) (λ vs. Ok (v ∷ vs)))
    ∙ ap (λ (r : Result (List Data) TermFault). if list_all is_within da then r else Err Range) (made_of db vb (λ vs. v ∷ vs))
    ∙ sym (range_check_append da db (option_map (λ vs. v ∷ vs) vb))

mutual
  -- a term, evaluated part by part, is checked as a whole
  pub stepwise_is : {N C : Type 0} (t : PlainTerm N C Shape) (e : Bindings) → stepwise_answer t e ≡ answer t e
  stepwise_is (plain.number n) e = refl
  stepwise_is (plain.truth b) e = refl
  stepwise_is (name x at) e = refl
  stepwise_is (one op a) e = rw (stepwise_is a e) (one_part (unary_value op) (numbers_met a e) (value a e))
  stepwise_is (two op a b) e = rw (stepwise_is a e, stepwise_is b e) (two_parts op (numbers_met a e) (numbers_met b e) (value a e) (value b e))
  stepwise_is (call w c ts) e = rw (all_stepwise_is ts e) (one_part (named_call_value w e) (all_numbers_met ts e) (values ts e))
  stepwise_is (display form d ts) e = rw (all_stepwise_is ts e) (one_part (display_value form d) (all_numbers_met ts e) (values ts e))
  stepwise_is (field a w d) e = rw (stepwise_is a e) (one_part (field_value d w) (numbers_met a e) (value a e))

  -- terms, evaluated one after another, are checked as a whole
  pub all_stepwise_is : {N C : Type 0} (ts : PlainTerms N C Shape) (e : Bindings) → stepwise_answers ts e ≡ range_check (all_numbers_met ts e) (values ts e)
  all_stepwise_is no_terms e = refl
  all_stepwise_is (term t more) e = rw (stepwise_is t e, all_stepwise_is more e) (one_more (numbers_met t e) (all_numbers_met more e) (value t e) (values more e))

-- a function of the results of two terms, one after the other
in_order : (ra rb : Result Data TermFault) (f : Function) →
    and_then (and_then ra (λ v. and_then (and_then rb (λ w. Ok (w ∷ []))) (λ vs. Ok (v ∷ vs)))) (λ vs. checked_result (call_value f vs))
    ≡ and_then ra (λ v. and_then rb (λ w. checked_result (call_two f v w)))
in_order (Ok v) (Ok w) f = refl
in_order (Ok v) (Err e) f = refl
in_order (Err e) rb f = refl

pub called_with_two : {N C : Type 0} (a b : PlainTerm N C Shape) (e : Bindings) (f : Function) →
    and_then (stepwise_answers (term a (term b no_terms)) e) (λ vs. checked_result (call_value f vs))
    ≡ and_then (stepwise_answer a e) (λ v. and_then (stepwise_answer b e) (λ w. checked_result (call_two f v w)))
called_with_two a b e f = in_order (stepwise_answer a e) (stepwise_answer b e) f

-- a list of two
pub two_items : {A : Type 0} (xs : List A) (x y : A) → 2 ≤ length xs → length xs < 3 → x ≡ get_or xs 0 x → y ≡ get_or xs 1 y → xs ≡ x ∷ y ∷ []
two_items [] x y l m h g = absurd (omega arith)
two_items (a ∷ []) x y l m h g = absurd (omega arith)
two_items (a ∷ b ∷ []) x y l m h g = let first : x ≡ a = h in let second : y ≡ b = g in cc
two_items (a ∷ b ∷ c ∷ xs) x y l m h g = absurd (omega arith)
