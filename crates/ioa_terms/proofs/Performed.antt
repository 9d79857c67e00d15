-- Performing statements one step after another is their meaning.
use Rattle.std.proofs.Common.{◌≡◌, ℕ, Bool, true, false, List, [], ◌∷◌, ◌++◌, Option, Some, None, Result, Ok, Err, refl, sym, ap, ◌∙◌, if◌then◌else◌, append-nil}
use Rattle.std.specs.Prelude.{slice_get, slice_set}
use Rattle.std.specs.List.{list_all}
use Rattle.std.proofs.lemmas.List.Folds.{list_all-append}
use Rattle.ioa_operators.specs.Shapes.{has_shape}
use Rattle.ioa_terms.specs.declared.choices.EffectFault.{EffectFault}
use Rattle.ioa_terms.specs.declared.choices.EffectFault.TheVariants as effect
use Rattle.std.specs.Option.{option_and_then, option_map, ok_or}
use Rattle.ioa_values.specs.Data.{Data, is_within, as_truth, number, truth, constant, tuple, sequence, finite_set, finite_map, list_of, items_of}
use Rattle.ioa_values.specs.Outcome.{and_then}
use Rattle.ioa_operators.specs.Shapes.{PlainShape, truths, integers, naturals, constants, tuples, sequences, sets, maps, with_field, field_position}
use Rattle.ioa_operators.specs.RangeCheck.{range_check, checked_result}
use Rattle.ioa_terms.specs.declared.callee.Callee.{Callee}
use Rattle.ioa_terms.specs.declared.name.Name.{Name}
use Rattle.ioa_terms.specs.declared.name.Name.TheVariants.{Word}
use Rattle.ioa_terms.specs.Bindings.{Bindings, lookup, put}
use Rattle.ioa_terms.specs.PlainTerm.{PlainTerm, PlainTarget, variable, at_key, at_field, PlainStatement, PlainStatements, PlainArms, assign, branch, loop, fire, choosing, PlainChoice, no_statements, statement, no_arms, arm, statements_of}
use Rattle.ioa_terms.specs.Meaning.{value, numbers_met, if_any}
use Rattle.ioa_terms.specs.Choices.{Source, given, yielded, Left, left, Chosen, chosen, Lack, no_value, no_choice, lack_fault, lacked, or_no_value, in_effect, effect_fault, effect_check}
use Rattle.ioa_terms.specs.Performance.{target_name, target_shape, updated_map, assignment_value, assigned, fitting_value, test_value, by_test, next_given, value_chosen, permitted, with_chosen, taken, put_chosen, after_choose, after_assign, after_test, after_one, after_choice, after_all, numbers_met_by_assignment, numbers_met_if, numbers_met_by_yield, numbers_met_by_taking, numbers_met_by_choose, numbers_met_by_one, numbers_met_by_choice, numbers_met_by_all, answer_by}
use Rattle.ioa_terms.specs.Resolved.{AreAllResolved, AreResolved}
use Rattle.ioa_terms.specs.Stepwise.{stepwise_answer, stepwise_test, stepwise_assignment, stepwise_assigned, put_fitting_value, if_answered, given_next, stepwise_chosen, stepwise_permitted, stepwise_taken, stepwise_put, stepwise_put_checked, stepwise_choose, stepwise_assign, stepwise_one, stepwise_choice, stepwise_all}
use Rattle.ioa_terms.proofs.Stepwise.{stepwise_is, two_tests, range_check_append, range_check_none, range_check_some, made_of}
use Rattle.ioa_operators.specs.declared.shape.Shape.{Shape}
use Rattle.ioa_operators.specs.declared.fault.TermFault.{TermFault}
use Rattle.ioa_operators.specs.declared.fault.TermFault.TheVariants.{Undefined, Range}

-- a step from a part's value whose own result is no number
and_step : {A B : Type 0} (ds : List Data) (v : Option A) (f : A → Option B) → and_then (range_check ds v) (λ x. range_check [] (f x)) ≡ range_check ds (option_and_then f v)
and_step ds None f = range_check_none ds (λ x. range_check [] (f x))
and_step ds (Some x) f = range_check_some ds x (λ x. range_check [] (f x))

-- a map is no number
updated_within : (k v : Data) (o : Option Data) → checked_result (option_and_then (updated_map k v) o) ≡ range_check [] (option_and_then (updated_map k v) o)
updated_within k v None = refl
updated_within k v (Some (number z)) = refl
updated_within k v (Some (truth b)) = refl
updated_within k v (Some (constant c)) = refl
updated_within k v (Some (tuple ds)) = refl
updated_within k v (Some (sequence ds)) = refl
updated_within k v (Some (finite_set ds)) = refl
updated_within k v (Some (finite_map es)) = refl

-- nor is a tuple
one_within : {A : Type 0} (o : Option A) (d : Data) → is_within d ≡ true → checked_result (option_map (λ a. d) o) ≡ range_check [] (option_map (λ a. d) o)
one_within None d h = refl
one_within (Some a) d h = rw h refl

tuple_within : (ds : List Data) (v : Data) (i : Option ℕ) → checked_result (option_and_then (λ i. option_map (λ old. tuple (items_of (slice_set ds i v))) (slice_get ds i)) i) ≡ range_check [] (option_and_then (λ i. option_map (λ old. tuple (items_of (slice_set ds i v))) (slice_get ds i)) i)
tuple_within ds v None = refl
tuple_within ds v (Some i) = one_within (slice_get ds i) (tuple (items_of (slice_set ds i v))) refl

field_within : (s : PlainShape) (f : List ℕ) (v : Data) (o : Option Data) → checked_result (option_and_then (with_field s f v) o) ≡ range_check [] (option_and_then (with_field s f v) o)
field_within s f v None = refl
field_within truths f v (Some d) = refl
field_within integers f v (Some d) = refl
field_within naturals f v (Some d) = refl
field_within (constants w from many) f v (Some d) = refl
field_within (sequences s) f v (Some d) = refl
field_within (sets s) f v (Some d) = refl
field_within (maps k s) f v (Some d) = refl
field_within (tuples w names ss) f v (Some (number z)) = refl
field_within (tuples w names ss) f v (Some (truth b)) = refl
field_within (tuples w names ss) f v (Some (constant c)) = refl
field_within (tuples w names ss) f v (Some (tuple ds)) = tuple_within (list_of ds) v (field_position f names)
field_within (tuples w names ss) f v (Some (sequence ds)) = refl
field_within (tuples w names ss) f v (Some (finite_set ds)) = refl
field_within (tuples w names ss) f v (Some (finite_map es)) = refl

key_first : (dk dt : List Data) (vk : Option Data) (vt : Option Data) (f : Data → Data → Option Data) → and_then (range_check dk vk) (λ i. and_then (range_check dt vt) (λ v. range_check [] (f i v))) ≡ range_check (dk ++ if_any vk dt) (option_and_then (λ i. option_and_then (f i) vt) vk)
key_first dk dt None vt f = rw (append-nil dk) (range_check_none dk (λ i. and_then (range_check dt vt) (λ v. range_check [] (f i v))))
key_first dk dt (Some i) vt f =
    range_check_some dk i (λ i. and_then (range_check dt vt) (λ v. range_check [] (f i v)))
    ∙ ap (λ (r : Result Data TermFault). if list_all is_within dk then r else Err Range) (and_step dt vt (f i))
    ∙ sym (range_check_append dk dt (option_and_then (f i) vt))

-- what an assignment gives its variable is checked as a whole
stepwise_assignment_is : {N C : Type 0} (p : PlainTarget N C Shape) (t : PlainTerm N C Shape) (e : Bindings) → stepwise_assignment p t e ≡ range_check (numbers_met_by_assignment p t e) (assignment_value p t e)
stepwise_assignment_is (variable x at d) t e = stepwise_is t e
stepwise_assignment_is (at_key x at d k) t e =
    rw (stepwise_is k e, stepwise_is t e)
    (ap (λ (f : Data → Data → Result Data TermFault). and_then (range_check (numbers_met k e) (value k e)) (λ i. and_then (range_check (numbers_met t e) (value t e)) (f i))) (λ j i v. updated_within i v (lookup (Word x) e) j)
    ∙ key_first (numbers_met k e) (numbers_met t e) (value k e) (value t e) (λ i v. option_and_then (updated_map i v) (lookup (Word x) e)))
stepwise_assignment_is (at_field x at d f) t e =
    rw (stepwise_is t e)
    (ap (λ (g : Data → Result Data TermFault). and_then (range_check (numbers_met t e) (value t e)) g) (λ j v. field_within d f v (lookup (Word x) e) j)
    ∙ and_step (numbers_met t e) (value t e) (λ v. option_and_then (with_field d f v) (lookup (Word x) e)))

put_one : (x : Name) (s : PlainShape) (e : Bindings) (v : Data) → put_fitting_value x s e v ≡ range_check [] (option_map (λ w. put x w e) (fitting_value s v))
put_one x s e v = made_of [] (fitting_value s v) (λ w. put x w e)

map_and_then : {A B C : Type 0} (f : A → Option B) (g : B → C) (o : Option A) → option_and_then (λ v. option_map g (f v)) o ≡ option_map g (option_and_then f o)
map_and_then f g None = refl
map_and_then f g (Some v) = refl

-- the new value is put if it has the variable's shape
put_is : (ds : List Data) (o : Option Data) (x : Name) (s : PlainShape) (e : Bindings) → and_then (range_check ds o) (put_fitting_value x s e) ≡ range_check ds (option_map (λ w. put x w e) (option_and_then (fitting_value s) o))
put_is ds o x s e =
    ap (λ (f : Data → Result Bindings TermFault). and_then (range_check ds o) f) (λ j v. put_one x s e v j)
    ∙ and_step ds o (λ v. option_map (λ w. put x w e) (fitting_value s v))
    ∙ ap (range_check ds) (map_and_then (fitting_value s) (λ w. put x w e) o)

stepwise_test_is : {N C : Type 0} (t : PlainTerm N C Shape) (e : Bindings) → stepwise_test t e ≡ range_check (numbers_met t e) (test_value t e)
stepwise_test_is t e = rw (stepwise_is t e) (and_step (numbers_met t e) (value t e) as_truth)

assigned_is : {N C : Type 0} (p : PlainTarget N C Shape) (t : PlainTerm N C Shape) (e : Bindings) → stepwise_assigned p t e ≡ range_check (numbers_met_by_assignment p t e) (assigned p t e)
assigned_is p t e = rw (stepwise_assignment_is p t e) (put_is (numbers_met_by_assignment p t e) (assignment_value p t e) (target_name p) (target_shape p) e)

-- what is met first is checked first
check_append : {A : Type 0} (xs ys : List Data) (r : Result A Lack) → effect_check (xs ++ ys) r ≡ (if list_all is_within xs then effect_check ys r else Err effect.Range)
check_append xs ys r = rw (list_all-append is_within xs ys) (two_tests (list_all is_within xs) (list_all is_within ys) (lacked r) (Err effect.Range))

-- nothing comes after what is lacking
lacking : {A B : Type 0} (b : Bool) (f : EffectFault) (g : A → Result B EffectFault) → and_then (if b then Err f else Err effect.Range) g ≡ (if b then Err f else Err effect.Range)
lacking true f g = refl
lacking false f g = refl

present : {A B : Type 0} (b : Bool) (x : A) (g : A → Result B EffectFault) → and_then (if b then Ok x else Err effect.Range) g ≡ (if b then g x else Err effect.Range)
present true x g = refl
present false x g = refl

-- a term's result, in an effect
term_checked : {A : Type 0} (b : Bool) (o : Option A) → in_effect (if b then ok_or o Undefined else Err Range) ≡ (if b then lacked (or_no_value o) else Err effect.Range)
term_checked true None = refl
term_checked true (Some x) = refl
term_checked false o = refl

in_check : {A : Type 0} (ds : List Data) (o : Option A) → in_effect (range_check ds o) ≡ effect_check ds (or_no_value o)
in_check ds o = term_checked (list_all is_within ds) o

-- what comes after something that may be lacking is checked with it
next_is : {A B : Type 0} (ds : List Data) (r : Result A Lack) (more : A → List Data) (next : A → Result B Lack) → and_then (effect_check ds r) (λ x. effect_check (more x) (next x)) ≡ effect_check (ds ++ numbers_met_if r more) (and_then r next)
next_is ds (Err l) more next = rw (append-nil ds) (lacking (list_all is_within ds) (lack_fault l) (λ x. effect_check (more x) (next x)))
next_is ds (Ok x) more next = present (list_all is_within ds) x (λ x. effect_check (more x) (next x)) ∙ sym (check_append ds (more x) (next x))

-- a step that meets no number
step_is : {A B : Type 0} (ds : List Data) (r : Result A Lack) (next : A → Result B Lack) → and_then (effect_check ds r) (λ x. effect_check [] (next x)) ≡ effect_check ds (and_then r next)
step_is ds (Err l) next = lacking (list_all is_within ds) (lack_fault l) (λ x. effect_check [] (next x))
step_is ds (Ok x) next = present (list_all is_within ds) x (λ x. effect_check [] (next x))

-- the same of a step that can't lack anything
made_is : {A B : Type 0} (ds : List Data) (r : Result A Lack) (f : A → B) → and_then (effect_check ds r) (λ x. Ok (f x)) ≡ effect_check ds (and_then r (λ x. Ok (f x)))
made_is ds r f = step_is ds r (λ x. Ok (f x))

assign_is : {N C : Type 0} (p : PlainTarget N C Shape) (t : PlainTerm N C Shape) (e : Bindings) (c : Source) → stepwise_assign (stepwise_assigned p t e) c ≡ effect_check (numbers_met_by_assignment p t e) (after_assign (assigned p t e) c)
assign_is p t e c =
    rw (assigned_is p t e, in_check (numbers_met_by_assignment p t e) (assigned p t e))
    (made_is (numbers_met_by_assignment p t e) (or_no_value (assigned p t e)) (λ e. left e c))

-- what is given next
given_tested : (b : Bool) (c : Chosen) → (if b then Ok c else Err effect.NoChoice) ≡ lacked (if b then Ok c else Err no_choice)
given_tested true c = refl
given_tested false c = refl

given_is : (s : PlainShape) (vs : List Data) → given_next s vs ≡ effect_check [] (next_given s vs)
given_is s [] = refl
given_is s (v ∷ vs) = given_tested (has_shape s v) (chosen v (given vs))

-- a value for a choice
chosen_is : {N C : Type 0} (s : PlainShape) (t : PlainTerm N C Shape) (e : Bindings) (c : Source) → stepwise_chosen s t e c ≡ effect_check (numbers_met_by_yield t c e) (value_chosen s (value t e) c)
chosen_is s t e (given vs) = given_is s vs
chosen_is s t e (yielded vs) =
    rw (stepwise_is t e, and_step (numbers_met t e) (value t e) (fitting_value s), in_check (numbers_met t e) (option_and_then (fitting_value s) (value t e)))
    (made_is (numbers_met t e) (or_no_value (option_and_then (fitting_value s) (value t e))) (λ v. chosen v (yielded (vs ++ v ∷ []))))

-- its condition
condition_is : (b : Bool) (o : Option Bool) → stepwise_permitted (if b then ok_or o Undefined else Err Range) ≡ (if b then lacked (permitted o) else Err effect.Range)
condition_is true None = refl
condition_is true (Some true) = refl
condition_is true (Some false) = refl
condition_is false o = refl

permitted_is : {N C : Type 0} (t : PlainTerm N C Shape) (e : Bindings) (c : Chosen) → and_then (stepwise_permitted (stepwise_test t e)) (λ _. Ok c) ≡ effect_check (numbers_met t e) (and_then (permitted (test_value t e)) (λ _. Ok c))
permitted_is t e c =
    rw (stepwise_test_is t e, condition_is (list_all is_within (numbers_met t e)) (test_value t e))
    (made_is (numbers_met t e) (permitted (test_value t e)) (λ _. c))

taken_is : {N C : Type 0} (c : PlainChoice N C Shape) (l : Left) → stepwise_taken c l ≡ effect_check (numbers_met_by_taking c l) (taken c l)
taken_is c l =
    ap (λ (f : Chosen → Result Chosen EffectFault). and_then (stepwise_chosen c.shape c.yields l.bindings l.source) f) (λ j v. permitted_is c.condition (with_chosen c.name v.value l.bindings) v j)
    ∙ rw (chosen_is c.shape c.yields l.bindings l.source)
    (next_is (numbers_met_by_yield c.yields l.source l.bindings) (value_chosen c.shape (value c.yields l.bindings) l.source) (λ v. numbers_met c.condition (with_chosen c.name v.value l.bindings)) (λ v. and_then (permitted (test_value c.condition (with_chosen c.name v.value l.bindings))) (λ _. Ok v)))

-- the value is put
put_found : (o : Option Data) (x : Name) (e : Bindings) (c : Source) → and_then (or_no_value (option_map (λ w. put x w e) o)) (λ f. Ok (left f c)) ≡ and_then (or_no_value o) (λ w. Ok (left (put x w e) c))
put_found None x e c = refl
put_found (Some w) x e c = refl

put_left : (x : Name) (s : PlainShape) (e : Bindings) (c : Source) (v : Data) → stepwise_put x s e c v ≡ effect_check [] (put_chosen x s e c (Some v))
put_left x s e c v =
    rw (put_one x s e v, in_check [] (option_map (λ w. put x w e) (fitting_value s v)))
    (made_is [] (or_no_value (option_map (λ w. put x w e) (fitting_value s v))) (λ f. left f c)
    ∙ ap (λ (r : Result Left Lack). effect_check [] r) (put_found (fitting_value s v) x e c))

put_whole : (x : Name) (s : PlainShape) (e : Bindings) (c : Source) (o : Option Data) → and_then (or_no_value o) (λ v. put_chosen x s e c (Some v)) ≡ put_chosen x s e c o
put_whole x s e c None = refl
put_whole x s e c (Some v) = refl

put_checked : (x : Name) (s : PlainShape) (e : Bindings) (c : Source) (o : Option Data) → checked_result o ≡ range_check [] o → stepwise_put_checked x s e c o ≡ effect_check [] (put_chosen x s e c o)
put_checked x s e c o h =
    rw (h, in_check [] o)
    (ap (λ (f : Data → Result Left EffectFault). and_then (effect_check [] (or_no_value o)) f) (λ j v. put_left x s e c v j)
    ∙ step_is [] (or_no_value o) (λ v. put_chosen x s e c (Some v))
    ∙ ap (λ (r : Result Left Lack). effect_check [] r) (put_whole x s e c o))

-- a choice, whatever it takes
put_by : (ds : List Data) (r : Result Chosen Lack) (x : Name) (s : PlainShape) (e : Bindings) (whole : Data → Option Data) → ((v : Data) → checked_result (whole v) ≡ range_check [] (whole v)) → and_then (effect_check ds r) (λ v. stepwise_put_checked x s e v.source (whole v.value)) ≡ effect_check ds (and_then r (λ v. put_chosen x s e v.source (whole v.value)))
put_by ds r x s e whole h =
    ap (λ (f : Chosen → Result Left EffectFault). and_then (effect_check ds r) f) (λ j v. put_checked x s e v.source (whole v.value) (h v.value) j)
    ∙ step_is ds r (λ v. put_chosen x s e v.source (whole v.value))

choose_is : {N C : Type 0} (p : PlainTarget N C Shape) (c : PlainChoice N C Shape) (l : Left) → stepwise_choose p c l ≡ effect_check (numbers_met_by_choose p (numbers_met_by_taking c l) l.bindings) (after_choose p (taken c l) l.bindings)
choose_is (variable x at d) c l =
    rw (taken_is c l)
    (ap (λ (f : Chosen → Result Left EffectFault). and_then (effect_check (numbers_met_by_taking c l) (taken c l)) f) (λ j v. put_left (Word x) d l.bindings v.source v.value j)
    ∙ step_is (numbers_met_by_taking c l) (taken c l) (λ v. put_chosen (Word x) d l.bindings v.source (Some v.value)))
choose_is (at_key x at d k) c l =
    rw (taken_is c l, stepwise_is k l.bindings, in_check (numbers_met k l.bindings) (value k l.bindings))
    (ap (λ (f : Data → Result Left EffectFault). and_then (effect_check (numbers_met k l.bindings) (or_no_value (value k l.bindings))) f)
    (λ j i. put_by (numbers_met_by_taking c l) (taken c l) (Word x) d l.bindings (λ v. option_and_then (updated_map i v) (lookup (Word x) l.bindings)) (λ v. updated_within i v (lookup (Word x) l.bindings)) j)
    ∙ next_is (numbers_met k l.bindings) (or_no_value (value k l.bindings)) (λ i. numbers_met_by_taking c l) (λ i. and_then (taken c l) (λ v. put_chosen (Word x) d l.bindings v.source (option_and_then (updated_map i v.value) (lookup (Word x) l.bindings)))))
choose_is (at_field x at d f) c l =
    rw (taken_is c l)
    (put_by (numbers_met_by_taking c l) (taken c l) (Word x) d l.bindings (λ v. option_and_then (with_field d f v) (lookup (Word x) l.bindings)) (λ v. field_within d f v (lookup (Word x) l.bindings)))

-- what comes after a test is checked with it
answered_none : (b : Bool) (held other : Result Left EffectFault) → if_answered (if b then Err Undefined else Err Range) held other ≡ (if b then Err effect.Undefined else Err effect.Range)
answered_none true held other = refl
answered_none false held other = refl

answered_some : (b t : Bool) (held other : Result Left EffectFault) → if_answered (if b then Ok t else Err Range) held other ≡ (if b then if_answered (Ok t) held other else Err effect.Range)
answered_some true t held other = refl
answered_some false t held other = refl

choice_is : (ds held other : List Data) (o : Option Bool) (y n : Result Left Lack) → if_answered (range_check ds o) (effect_check held y) (effect_check other n) ≡ effect_check (ds ++ by_test o [] held other) (after_test o y n)
choice_is ds held other None y n = rw (append-nil ds) (answered_none (list_all is_within ds) (effect_check held y) (effect_check other n))
choice_is ds held other (Some true) y n = answered_some (list_all is_within ds) true (effect_check held y) (effect_check other n) ∙ sym (check_append ds held y)
choice_is ds held other (Some false) y n = answered_some (list_all is_within ds) false (effect_check held y) (effect_check other n) ∙ sym (check_append ds other n)

mutual
  stepwise_one_is : {N C : Type 0} (s : PlainStatement N C Shape) (l : Left) → stepwise_one s l ≡ effect_check (numbers_met_by_one s l) (after_one s l)
  stepwise_one_is (assign p t) l = assign_is p t l.bindings l.source
  stepwise_one_is (branch arms rest) l = rw (stepwise_all_is rest l) (stepwise_choice_is arms (numbers_met_by_all rest l) (after_all rest l) l)
  stepwise_one_is (loop t body) l = refl
  stepwise_one_is (fire f) l = refl
  stepwise_one_is (choosing c) l = choose_is c.target c l

  stepwise_choice_is : {N C : Type 0} (arms : PlainArms N C Shape) (ds : List Data) (rest : Result Left Lack) (l : Left) → stepwise_choice arms (effect_check ds rest) l ≡ effect_check (numbers_met_by_choice arms ds l) (after_choice arms rest l)
  stepwise_choice_is no_arms ds rest l = refl
  stepwise_choice_is (arm t body more) ds rest l =
      rw (stepwise_test_is t l.bindings, stepwise_all_is body l, stepwise_choice_is more ds rest l)
      (choice_is (numbers_met t l.bindings) (numbers_met_by_all body l) (numbers_met_by_choice more ds l) (test_value t l.bindings) (after_all body l) (after_choice more rest l))

  stepwise_all_is : {N C : Type 0} (ss : PlainStatements N C Shape) (l : Left) → stepwise_all ss l ≡ effect_check (numbers_met_by_all ss l) (after_all ss l)
  stepwise_all_is no_statements l = refl
  stepwise_all_is (statement s more) l =
      ap (λ (f : Left → Result Left EffectFault). and_then (stepwise_one s l) f) (λ j v. stepwise_all_is more v j)
      ∙ rw (stepwise_one_is s l) (next_is (numbers_met_by_one s l) (after_one s l) (numbers_met_by_all more) (after_all more))

-- statements, performed one after another, are checked as a whole
pub stepwise_by_is : {N C : Type 0} (ss : List (PlainStatement N C Shape)) (l : Left) → stepwise_all (statements_of ss) l ≡ answer_by ss l
stepwise_by_is ss l = stepwise_all_is (statements_of ss) l

-- statements of a list are resolved one by one
pub all_resolved : {D : Type 0} (ss : List (PlainStatement ℕ Callee D)) (variables names : List Name) → AreResolved ss variables names → AreAllResolved (statements_of ss) variables names
all_resolved [] variables names h = tt
all_resolved (s ∷ ss) variables names h = (h.0, all_resolved ss variables names h.1)

pub resolved_all : {D : Type 0} (ss : List (PlainStatement ℕ Callee D)) (variables names : List Name) → AreAllResolved (statements_of ss) variables names → AreResolved ss variables names
resolved_all [] variables names h = tt
resolved_all (s ∷ ss) variables names h = (h.0, resolved_all ss variables names h.1)
