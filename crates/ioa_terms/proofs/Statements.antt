-- Statements one after another.
use Rattle.std.proofs.Common.{◌≡◌, ℕ, Bool, true, false, List, [], ◌∷◌, ◌++◌, Option, Some, None, Result, Ok, Err, refl, ap, ◌∙◌, if◌then◌else◌}
use Rattle.std.specs.Option.{option_and_then, option_map, IfSome}
use Rattle.std.specs.Prelude.{IfOk}
use Rattle.ioa_values.specs.Data.{Data}
use Rattle.ioa_values.specs.Outcome.{and_then}
use Rattle.ioa_operators.specs.Shapes.{PlainShape, has_shape, with_field}
use Rattle.ioa_operators.specs.declared.shape.Shape.{Shape}
use Rattle.ioa_terms.specs.declared.name.Name.{Name}
use Rattle.ioa_terms.specs.declared.name.Name.TheVariants.{Word}
use Rattle.ioa_terms.specs.Bindings.{Bindings, names_of, same_name, lookup, put}
use Rattle.ioa_terms.specs.Choices.{Source, Left, left, Chosen, Lack, no_value, no_choice, or_no_value}
use Rattle.ioa_terms.specs.Meaning.{value}
use Rattle.ioa_terms.specs.Performance.{target_name, target_shape, updated_map, assignment_value, assigned, fitting_value, test_value, by_test, taken, put_chosen, after_choose, after_assign, after_test, after_one, after_choice, after_all, after}
use Rattle.ioa_terms.specs.PlainTerm.{PlainTerm, PlainTarget, PlainStatement, PlainStatements, PlainArms, PlainChoice, variable, at_key, at_field, assign, branch, loop, fire, choosing, no_statements, statement, no_arms, arm, statements_of}

-- later statements start from what the earlier ones leave
pub after_in_order : {N C : Type 0} (earlier later : List (PlainStatement N C Shape)) (l : Left) → after (earlier ++ later) l ≡ and_then (after earlier l) (after later)
after_in_order [] later l = refl
after_in_order (s ∷ earlier) later l = by_first (after_one s l) (after_in_order earlier later)
  where
    by_first : (r : Result Left Lack) → ((m : Left) → after (earlier ++ later) m ≡ and_then (after earlier m) (after later)) →
        and_then r (after (earlier ++ later)) ≡ and_then (and_then r (after earlier)) (after later)
    by_first (Err f) further = refl
    by_first (Ok m) further = further m

-- an assignment to a variable
pub after_assignment : {N C : Type 0} (x : List ℕ) (at : N) (s : PlainShape) (t : PlainTerm N C Shape) (l : Left) (v : Data) → value t l.bindings ≡ Some v → has_shape s v ≡ true → after (assign (variable x at s) t ∷ []) l ≡ Ok (left (put (Word x) v l.bindings) l.source)
after_assignment x at s t l v h k = rw (h, k) refl

-- what is known of results, one after another
pub ok_then : {A B : Type 0} (P : A → Type 0) (Q : B → Type 0) (r : Result A Lack) (f : A → Result B Lack) → IfOk r P → ((x : A) → P x → IfOk (f x) Q) → IfOk (and_then r f) Q
ok_then P Q (Err l) f h further = tt
ok_then P Q (Ok x) f h further = further x h

pub or_ok : {A : Type 0} (P : A → Type 0) (o : Option A) → IfSome o P → IfOk (or_no_value o) P
or_ok P None h = tt
or_ok P (Some x) h = h

pub in_any_case : {A : Type 0} (r : Result A Lack) → IfOk r (λ x. Unit {0})
in_any_case (Err l) = tt
in_any_case (Ok x) = tt

-- what is left has the names of an environment
abbrev HasNamesOf : Bindings → Left → Type 0
HasNamesOf e m = names_of m.bindings ≡ names_of e

-- a new value of a name
put_names : (x : Name) (v : Data) (e : Bindings) → names_of (put x v e) ≡ names_of e
put_names x v [] = refl
put_names x v (b ∷ e) = by_condition (same_name x b.0) (put_names x v e)
  where
    by_condition : (t : Bool) → names_of (put x v e) ≡ names_of e → names_of (if t then (b.0, v) ∷ e else b ∷ put x v e) ≡ b.0 ∷ names_of e
    by_condition true further = refl
    by_condition false further = ap (λ (ns : List Name). b.0 ∷ ns) further

put_option_names : (x : Name) (e : Bindings) (o : Option Data) → IfSome (option_map (λ v. put x v e) o) (λ f. names_of f ≡ names_of e)
put_option_names x e None = tt
put_option_names x e (Some v) = put_names x v e

assign_names : {N C : Type 0} (p : PlainTarget N C Shape) (t : PlainTerm N C Shape) (e : Bindings) (c : Source) → IfOk (after_assign (assigned p t e) c) (HasNamesOf e)
assign_names p t e c =
    ok_then (λ f. names_of f ≡ names_of e) (HasNamesOf e) (or_no_value (assigned p t e)) (λ f. Ok (left f c))
    (or_ok (λ f. names_of f ≡ names_of e) (assigned p t e) (put_option_names (target_name p) e (option_and_then (fitting_value (target_shape p)) (assignment_value p t e))))
    (λ f h. h)

chosen_names : (x : Name) (s : PlainShape) (e : Bindings) (c : Source) (o : Option Data) → IfOk (put_chosen x s e c o) (HasNamesOf e)
chosen_names x s e c o =
    ok_then (λ w. Unit {0}) (HasNamesOf e) (or_no_value (option_and_then (fitting_value s) o)) (λ w. Ok (left (put x w e) c))
    (in_any_case (or_no_value (option_and_then (fitting_value s) o))) (λ w h. put_names x w e)

choose_names : {N C : Type 0} (p : PlainTarget N C Shape) (r : Result Chosen Lack) (e : Bindings) → IfOk (after_choose p r e) (HasNamesOf e)
choose_names (variable x at d) r e =
    ok_then (λ c. Unit {0}) (HasNamesOf e) r (λ c. put_chosen (Word x) d e c.source (Some c.value)) (in_any_case r) (λ c h. chosen_names (Word x) d e c.source (Some c.value))
choose_names (at_key x at d k) r e =
    ok_then (λ i. Unit {0}) (HasNamesOf e) (or_no_value (value k e)) (λ i. and_then r (λ c. put_chosen (Word x) d e c.source (option_and_then (updated_map i c.value) (lookup (Word x) e)))) (in_any_case (or_no_value (value k e)))
    (λ i h. ok_then (λ c. Unit {0}) (HasNamesOf e) r (λ c. put_chosen (Word x) d e c.source (option_and_then (updated_map i c.value) (lookup (Word x) e))) (in_any_case r)
    (λ c g. chosen_names (Word x) d e c.source (option_and_then (updated_map i c.value) (lookup (Word x) e))))
choose_names (at_field x at d f) r e =
    ok_then (λ c. Unit {0}) (HasNamesOf e) r (λ c. put_chosen (Word x) d e c.source (option_and_then (with_field d f c.value) (lookup (Word x) e))) (in_any_case r)
    (λ c h. chosen_names (Word x) d e c.source (option_and_then (with_field d f c.value) (lookup (Word x) e)))

-- what a test leaves
tested_names : (e : Bindings) (t : Option Bool) (body more : Result Left Lack) → IfOk body (HasNamesOf e) → IfOk more (HasNamesOf e) → IfOk (after_test t body more) (HasNamesOf e)
tested_names e None body more h k = tt
tested_names e (Some true) body more h k = h
tested_names e (Some false) body more h k = k

-- what more statements leave
further_names : (e : Bindings) (next : Left → Result Left Lack) (m : Left) → HasNamesOf e m → IfOk (next m) (HasNamesOf m.bindings) → IfOk (next m) (HasNamesOf e)
further_names e next m h k = of_next (next m) k
  where
    of_next : (r : Result Left Lack) → IfOk r (HasNamesOf m.bindings) → IfOk r (HasNamesOf e)
    of_next (Err l) g = tt
    of_next (Ok n) g = g ∙ h

-- statements bind no new name
mutual
  statement_names : {N C : Type 0} (s : PlainStatement N C Shape) (l : Left) → IfOk (after_one s l) (HasNamesOf l.bindings)
  statement_names (assign p t) l = assign_names p t l.bindings l.source
  statement_names (branch arms rest) l = choice_names arms (after_all rest l) l (statements_names rest l)
  statement_names (loop t body) l = tt
  statement_names (fire f) l = tt
  statement_names (choosing c) l = choose_names c.target (taken c l) l.bindings

  choice_names : {N C : Type 0} (arms : PlainArms N C Shape) (rest : Result Left Lack) (l : Left) → IfOk rest (HasNamesOf l.bindings) → IfOk (after_choice arms rest l) (HasNamesOf l.bindings)
  choice_names no_arms rest l h = h
  choice_names (arm t body more) rest l h = tested_names l.bindings (test_value t l.bindings) (after_all body l) (after_choice more rest l) (statements_names body l) (choice_names more rest l h)

  statements_names : {N C : Type 0} (ss : PlainStatements N C Shape) (l : Left) → IfOk (after_all ss l) (HasNamesOf l.bindings)
  statements_names no_statements l = refl
  statements_names (statement s more) l =
      ok_then (HasNamesOf l.bindings) (HasNamesOf l.bindings) (after_one s l) (after_all more) (statement_names s l)
      (λ m h. further_names l.bindings (after_all more) m h (statements_names more m))

pub after_names : {N C : Type 0} (ss : List (PlainStatement N C Shape)) (l m : Left) → after ss l ≡ Ok m → names_of m.bindings ≡ names_of l.bindings
after_names ss l m k = rw k at (statements_names (statements_of ss) l)
