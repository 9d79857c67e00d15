-- Terms make canonical values, and statements canonical environments, of canonical environments.
use Rattle.std.proofs.Common.{◌≡◌, ℕ, Bool, true, false, List, [], ◌∷◌, ◌++◌, Option, Some, None, Result, Ok, Err, IfOk, if◌then◌else◌}
use Rattle.std.specs.Option.{IfSome, option_and_then, option_map, option_or}
use Rattle.ioa_values.specs.Data.{Data, truth}
use Rattle.ioa_operators.specs.Operators.{unary_value, binary_value, left_decision, function_named}
use Rattle.ioa_operators.specs.Shapes.{PlainShape, has_shape, display_value, field_value, with_field}
use Rattle.ioa_values.specs.Canonical.{IsCanonical, AllCanonical}
use Rattle.ioa_terms.specs.declared.name.Name.{Name}
use Rattle.ioa_terms.specs.declared.name.Name.TheVariants.{Word}
use Rattle.ioa_terms.specs.Bindings.{Bindings, same_name, lookup, put}
use Rattle.ioa_terms.specs.PlainTerm as plain
use Rattle.ioa_terms.specs.PlainTerm.{PlainTerm, PlainTerms, name, one, two, call, display, field, no_terms, term, PlainTarget, variable, at_key, at_field, PlainStatement, PlainStatements, PlainArms, assign, branch, loop, fire, choosing, PlainChoice, no_statements, statement, no_arms, arm, statements_of}
use Rattle.ioa_terms.specs.Meaning.{value, values, is_inbox_word, inbox_value, call_by, named_call_value}
use Rattle.ioa_terms.specs.Inboxes.{inboxes_word}
use Rattle.ioa_terms.specs.Choices.{Source, given, yielded, Left, left, Chosen, chosen, Lack, no_value, no_choice, or_no_value}
use Rattle.ioa_terms.specs.Performance.{target_name, target_shape, updated_map, assignment_value, assigned, fitting_value, test_value, by_test, value_chosen, permitted, with_chosen, taken, put_chosen, after_choose, after_assign, after_test, after_one, after_choice, after_all, after}
use Rattle.ioa_terms.proofs.Statements.{ok_then, or_ok, in_any_case}
use Rattle.ioa_values.specs.Outcome.{and_then}
use Rattle.ioa_terms.specs.Ascending.{IsAscendingEnvironment, IsAscendingLeft, source_values}
use Rattle.ioa_operators.proofs.Canonicals.{unary_canonical, binary_canonical, call_canonical, display_canonical, field_canonical, with_field_canonical}
use Rattle.ioa_operators.specs.declared.operator.BinaryOperator.{BinaryOperator}
use Rattle.ioa_operators.specs.declared.operator.BinaryOperator.TheVariants.{Implies, Or, And, At}
use Rattle.ioa_operators.specs.declared.operator.Function.{Function}
use Rattle.ioa_operators.specs.declared.operator.Function.TheVariants as function
use Rattle.ioa_operators.specs.declared.shape.Shape.{Shape}
use Rattle.ioa_operators.proofs.Holding.{map_holds, and_then_holds, or_holds}

-- what holds of both of two holds of the one that is chosen
by_condition : {A : Type 0} (P : A → Type 0) (b : Bool) (x y : A) → P x → P y → P (if b then x else y)
by_condition P true x y h k = h
by_condition P false x y h k = k

tested : {A : Type 0} (P : A → Type 0) (o : Option Bool) (x y z : A) → P x → P y → P z → P (by_test o x y z)
tested P None x y z h k l = h
tested P (Some true) x y z h k l = k
tested P (Some false) x y z h k l = l

-- the value of a name, and the environment in which a name has another value
lookup_canonical : (x : Name) (e : Bindings) → IsAscendingEnvironment e → IfSome (lookup x e) IsCanonical
lookup_canonical x [] g = tt
lookup_canonical x (b ∷ e) g =
    by_condition (λ (o : Option Data). IfSome o IsCanonical) (same_name x b.0) (Some b.1) (lookup x e) g.0 (lookup_canonical x e g.1)

put_canonical : (x : Name) (v : Data) (e : Bindings) → IsCanonical v → IsAscendingEnvironment e → IsAscendingEnvironment (put x v e)
put_canonical x v [] h g = tt
put_canonical x v (b ∷ e) h g =
    by_condition IsAscendingEnvironment (same_name x b.0) ((b.0, v) ∷ e) (b ∷ put x v e) (h, g.1) (g.0, put_canonical x v e h g.1)

-- what the left side of an operator decides
decision_canonical : (op : BinaryOperator) (v : Data) → IfSome (left_decision op v) IsCanonical
decision_canonical And (truth false) = tt
decision_canonical And _ = tt
decision_canonical Or (truth true) = tt
decision_canonical Or _ = tt
decision_canonical Implies (truth false) = tt
decision_canonical Implies _ = tt
decision_canonical _ v = tt

-- what waits in an inbox
waiting_canonical : (e : Bindings) → IsAscendingEnvironment e → (vs : List Data) → AllCanonical vs → IfSome (inbox_value vs e) IsCanonical
waiting_canonical e g [] h = tt
waiting_canonical e g (v ∷ []) h =
    and_then_holds IsCanonical IsCanonical (λ m. binary_value At m v) (lookup (Word inboxes_word) e) (lookup_canonical (Word inboxes_word) e g)
    (λ m k. binary_canonical At m v k h.0)
waiting_canonical e g (v ∷ w ∷ vs) h = tt

-- what a call makes
call_by_canonical : (e : Bindings) → IsAscendingEnvironment e → (o : Option Function) (w : List ℕ) (vs : List Data) → AllCanonical vs → IfSome (call_by o w e vs) IsCanonical
call_by_canonical e g None w vs h = by_condition (λ (o : Option Data). IfSome o IsCanonical) (is_inbox_word w) (inbox_value vs e) None (waiting_canonical e g vs h) tt
call_by_canonical e g (Some f) w vs h = call_canonical f vs h

-- what terms make
mutual
  term_canonical : {N C : Type 0} (e : Bindings) → IsAscendingEnvironment e → (t : PlainTerm N C Shape) → IfSome (value t e) IsCanonical
  term_canonical e g (plain.number n) = tt
  term_canonical e g (plain.truth b) = tt
  term_canonical e g (name x at) = lookup_canonical x e g
  term_canonical e g (one op a) = and_then_holds IsCanonical IsCanonical (unary_value op) (value a e) (term_canonical e g a) (λ v h. unary_canonical op v)
  term_canonical e g (two op a b) =
      and_then_holds IsCanonical IsCanonical (λ v. option_or (left_decision op v) (option_and_then (binary_value op v) (value b e))) (value a e) (term_canonical e g a)
      (λ v h. or_holds IsCanonical (left_decision op v) (option_and_then (binary_value op v) (value b e)) (decision_canonical op v)
      (and_then_holds IsCanonical IsCanonical (binary_value op v) (value b e) (term_canonical e g b) (λ w k. binary_canonical op v w h k)))
  term_canonical e g (call w c ts) = and_then_holds AllCanonical IsCanonical (named_call_value w e) (values ts e) (terms_canonical e g ts) (call_by_canonical e g (function_named w) w)
  term_canonical e g (display form d ts) =
      and_then_holds AllCanonical IsCanonical (display_value form d) (values ts e) (terms_canonical e g ts) (display_canonical form d)
  term_canonical e g (field a w d) =
      and_then_holds IsCanonical IsCanonical (field_value d w) (value a e) (term_canonical e g a) (field_canonical d w)

  terms_canonical : {N C : Type 0} (e : Bindings) → IsAscendingEnvironment e → (ts : PlainTerms N C Shape) → IfSome (values ts e) AllCanonical
  terms_canonical e g no_terms = tt
  terms_canonical e g (term t more) =
      and_then_holds IsCanonical AllCanonical (λ v. option_map (λ vs. v ∷ vs) (values more e)) (value t e) (term_canonical e g t)
      (λ v h. map_holds AllCanonical AllCanonical (λ vs. v ∷ vs) (values more e) (terms_canonical e g more) (λ vs k. (h, k)))

-- what an assignment gives its variable
assigned_canonical : {N C : Type 0} (p : PlainTarget N C Shape) (t : PlainTerm N C Shape) (e : Bindings) → IsAscendingEnvironment e → IfSome (assignment_value p t e) IsCanonical
assigned_canonical (variable x at d) t e g = term_canonical e g t
assigned_canonical (at_key x at d k) t e g =
    and_then_holds IsCanonical IsCanonical (λ i. option_and_then (λ v. option_and_then (updated_map i v) (lookup (Word x) e)) (value t e)) (value k e) (term_canonical e g k)
    (λ i h. and_then_holds IsCanonical IsCanonical (λ v. option_and_then (updated_map i v) (lookup (Word x) e)) (value t e) (term_canonical e g t)
    (λ v l. and_then_holds IsCanonical IsCanonical (updated_map i v) (lookup (Word x) e) (lookup_canonical (Word x) e g)
    (λ m r. call_canonical function.Update (m ∷ i ∷ v ∷ []) (r, (h, (l, tt))))))
assigned_canonical (at_field x at d f) t e g =
    and_then_holds IsCanonical IsCanonical (λ v. option_and_then (with_field d f v) (lookup (Word x) e)) (value t e) (term_canonical e g t)
    (λ v h. and_then_holds IsCanonical IsCanonical (with_field d f v) (lookup (Word x) e) (lookup_canonical (Word x) e g) (λ old k. with_field_canonical d f v old h k))

fitted_canonical : (s : PlainShape) (v : Data) → IsCanonical v → IfSome (fitting_value s v) IsCanonical
fitted_canonical s v h = by_condition (λ (o : Option Data). IfSome o IsCanonical) (has_shape s v) (Some v) None h tt

-- one value more at the end
one_canonical : (vs : List Data) (v : Data) → AllCanonical vs → IsCanonical v → AllCanonical (vs ++ v ∷ [])
one_canonical [] v h k = (k, tt)
one_canonical (w ∷ vs) v h k = (h.0, one_canonical vs v h.1 k)

-- a chosen value, and those that are left to choose
abbrev IsAscendingChosen : Chosen → Type 0
IsAscendingChosen c = IsCanonical c.value × AllCanonical (source_values c.source)

value_chosen_canonical : (s : PlainShape) (o : Option Data) (c : Source) → IfSome o IsCanonical → AllCanonical (source_values c) → IfOk (value_chosen s o c) IsAscendingChosen
value_chosen_canonical s o (given []) h g = tt
value_chosen_canonical s o (given (v ∷ vs)) h g = by_condition (λ (r : Result Chosen Lack). IfOk r IsAscendingChosen) (has_shape s v) (Ok (chosen v (given vs))) (Err no_choice) g tt
value_chosen_canonical s o (yielded vs) h g =
    ok_then IsCanonical IsAscendingChosen (or_no_value (option_and_then (fitting_value s) o)) (λ v. Ok (chosen v (yielded (vs ++ v ∷ []))))
    (or_ok IsCanonical (option_and_then (fitting_value s) o) (and_then_holds IsCanonical IsCanonical (fitting_value s) o h (fitted_canonical s)))
    (λ v k. (k, one_canonical vs v g k))

taken_canonical : {N C : Type 0} (c : PlainChoice N C Shape) (l : Left) → IsAscendingLeft l → IfOk (taken c l) IsAscendingChosen
taken_canonical c l g =
    ok_then IsAscendingChosen IsAscendingChosen (value_chosen c.shape (value c.yields l.bindings) l.source) (λ v. and_then (permitted (test_value c.condition (with_chosen c.name v.value l.bindings))) (λ _. Ok v))
    (value_chosen_canonical c.shape (value c.yields l.bindings) l.source (term_canonical l.bindings g.0 c.yields) g.1)
    (λ v k. ok_then (λ u. Unit {0}) IsAscendingChosen (permitted (test_value c.condition (with_chosen c.name v.value l.bindings))) (λ _. Ok v) (in_any_case (permitted (test_value c.condition (with_chosen c.name v.value l.bindings)))) (λ u h. k))

put_chosen_canonical : (x : Name) (s : PlainShape) (e : Bindings) (c : Source) (o : Option Data) → IsAscendingEnvironment e → AllCanonical (source_values c) → IfSome o IsCanonical → IfOk (put_chosen x s e c o) IsAscendingLeft
put_chosen_canonical x s e c o g k h =
    ok_then IsCanonical IsAscendingLeft (or_no_value (option_and_then (fitting_value s) o)) (λ w. Ok (left (put x w e) c))
    (or_ok IsCanonical (option_and_then (fitting_value s) o) (and_then_holds IsCanonical IsCanonical (fitting_value s) o h (fitted_canonical s)))
    (λ w r. (put_canonical x w e r g, k))

choose_canonical : {N C : Type 0} (p : PlainTarget N C Shape) (r : Result Chosen Lack) (e : Bindings) → IsAscendingEnvironment e → IfOk r IsAscendingChosen → IfOk (after_choose p r e) IsAscendingLeft
choose_canonical (variable x at d) r e g h =
    ok_then IsAscendingChosen IsAscendingLeft r (λ c. put_chosen (Word x) d e c.source (Some c.value)) h
    (λ c k. put_chosen_canonical (Word x) d e c.source (Some c.value) g k.1 k.0)
choose_canonical (at_key x at d k) r e g h =
    ok_then IsCanonical IsAscendingLeft (or_no_value (value k e)) (λ i. and_then r (λ c. put_chosen (Word x) d e c.source (option_and_then (updated_map i c.value) (lookup (Word x) e))))
    (or_ok IsCanonical (value k e) (term_canonical e g k))
    (λ i a. ok_then IsAscendingChosen IsAscendingLeft r (λ c. put_chosen (Word x) d e c.source (option_and_then (updated_map i c.value) (lookup (Word x) e))) h
    (λ c b. put_chosen_canonical (Word x) d e c.source (option_and_then (updated_map i c.value) (lookup (Word x) e)) g b.1
    (and_then_holds IsCanonical IsCanonical (updated_map i c.value) (lookup (Word x) e) (lookup_canonical (Word x) e g)
    (λ m q. call_canonical function.Update (m ∷ i ∷ c.value ∷ []) (q, (a, (b.0, tt)))))))
choose_canonical (at_field x at d f) r e g h =
    ok_then IsAscendingChosen IsAscendingLeft r (λ c. put_chosen (Word x) d e c.source (option_and_then (with_field d f c.value) (lookup (Word x) e))) h
    (λ c b. put_chosen_canonical (Word x) d e c.source (option_and_then (with_field d f c.value) (lookup (Word x) e)) g b.1
    (and_then_holds IsCanonical IsCanonical (with_field d f c.value) (lookup (Word x) e) (lookup_canonical (Word x) e g) (λ old q. with_field_canonical d f c.value old b.0 q)))

assign_canonical : {N C : Type 0} (p : PlainTarget N C Shape) (t : PlainTerm N C Shape) (e : Bindings) (c : Source) → IsAscendingEnvironment e → AllCanonical (source_values c) → IfOk (after_assign (assigned p t e) c) IsAscendingLeft
assign_canonical p t e c g k =
    ok_then IsAscendingEnvironment IsAscendingLeft (or_no_value (assigned p t e)) (λ f. Ok (left f c))
    (or_ok IsAscendingEnvironment (assigned p t e)
    (map_holds IsCanonical IsAscendingEnvironment (λ v. put (target_name p) v e) (option_and_then (fitting_value (target_shape p)) (assignment_value p t e))
    (and_then_holds IsCanonical IsCanonical (fitting_value (target_shape p)) (assignment_value p t e) (assigned_canonical p t e g) (fitted_canonical (target_shape p)))
    (λ v h. put_canonical (target_name p) v e h g)))
    (λ f h. (h, k))

-- what statements leave
mutual
  statement_canonical : {N C : Type 0} (s : PlainStatement N C Shape) (l : Left) → IsAscendingLeft l → IfOk (after_one s l) IsAscendingLeft
  statement_canonical (assign p t) l g = assign_canonical p t l.bindings l.source g.0 g.1
  statement_canonical (branch arms rest) l g = choice_canonical arms (after_all rest l) l g (statements_canonical rest l g)
  statement_canonical (loop t body) l g = tt
  statement_canonical (fire f) l g = tt
  statement_canonical (choosing c) l g = choose_canonical c.target (taken c l) l.bindings g.0 (taken_canonical c l g)

  choice_canonical : {N C : Type 0} (arms : PlainArms N C Shape) (rest : Result Left Lack) (l : Left) → IsAscendingLeft l → IfOk rest IsAscendingLeft → IfOk (after_choice arms rest l) IsAscendingLeft
  choice_canonical no_arms rest l g h = h
  choice_canonical (arm t body more) rest l g h =
      tested (λ (o : Result Left Lack). IfOk o IsAscendingLeft) (test_value t l.bindings) (Err no_value) (after_all body l) (after_choice more rest l)
      tt (statements_canonical body l g) (choice_canonical more rest l g h)

  statements_canonical : {N C : Type 0} (ss : PlainStatements N C Shape) (l : Left) → IsAscendingLeft l → IfOk (after_all ss l) IsAscendingLeft
  statements_canonical no_statements l g = g
  statements_canonical (statement s more) l g =
      ok_then IsAscendingLeft IsAscendingLeft (after_one s l) (after_all more) (statement_canonical s l g) (λ m h. statements_canonical more m h)

-- the value of a term, and what statements leave
pub value_ascends : {N C : Type 0} (e : Bindings) → IsAscendingEnvironment e → (t : PlainTerm N C Shape) (v : Data) → value t e ≡ Some v → IsCanonical v
value_ascends e g t v k = rw k at (term_canonical e g t)

pub after_ascends : {N C : Type 0} (l : Left) → IsAscendingLeft l → (ss : List (PlainStatement N C Shape)) (m : Left) → after ss l ≡ Ok m → IsAscendingLeft m
after_ascends l g ss m k = rw k at (statements_canonical (statements_of ss) l g)
