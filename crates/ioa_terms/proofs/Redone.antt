-- A choice that was made is made again: what statements chose by their own terms leads to the same if it is given.
use Rattle.std.proofs.Common.{◌≡◌, Bool, true, false, List, [], ◌∷◌, ◌++◌, Option, Some, None, Result, Ok, Err, refl, sym, ap, ◌∙◌, append-nil, append_assoc, if◌then◌else◌, subst}
use Rattle.ioa_values.specs.Data.{Data}
use Rattle.ioa_values.specs.Outcome.{and_then}
use Rattle.ioa_operators.specs.Shapes.{PlainShape, has_shape, with_field}
use Rattle.ioa_operators.specs.RangeCheck.{range_check, checked_result}
use Rattle.ioa_operators.specs.declared.shape.Shape.{Shape}
use Rattle.ioa_operators.specs.declared.fault.TermFault.{TermFault}
use Rattle.ioa_terms.specs.declared.choices.EffectFault.{EffectFault}
use Rattle.std.specs.Option.{option_and_then}
use Rattle.ioa_terms.specs.declared.name.Name.{Name}
use Rattle.ioa_terms.specs.declared.name.Name.TheVariants.{Word}
use Rattle.ioa_terms.specs.Bindings.{Bindings, lookup}
use Rattle.ioa_terms.specs.Choices.{Source, given, yielded, Left, left, Chosen, chosen, in_effect, effect_fault}
use Rattle.ioa_terms.specs.Performance.{fitting_value, updated_map, with_chosen, answer_by}
use Rattle.ioa_terms.proofs.Performed.{stepwise_by_is}
use Rattle.ioa_terms.specs.PlainTerm.{PlainTerm, PlainTarget, PlainStatement, PlainStatements, PlainArms, PlainChoice, variable, at_key, at_field, assign, branch, loop, fire, choosing, no_statements, statement, no_arms, arm, statements_of}
use Rattle.ioa_terms.specs.Stepwise.{stepwise_answer, stepwise_test, stepwise_assigned, stepwise_chosen, stepwise_permitted, stepwise_taken, stepwise_put, stepwise_put_checked, put_fitting_value, stepwise_choose, stepwise_assign, if_answered, stepwise_one, stepwise_choice, stepwise_all, given_next}

-- what a computation chose by its own terms, and that it comes to the same if that is given
record IsAgain (f : Left → Result Left EffectFault) (e : Bindings) (made : List Data) (r : Left) : Type 0 where
  pub taken : List Data
  pub source : r.source ≡ yielded (made ++ taken)
  pub again : (more : List Data) → f (left e (given (taken ++ more))) ≡ Ok (left r.bindings (given more))

abbrev Redoes : (Left → Result Left EffectFault) → Type 0
Redoes f = (e : Bindings) (made : List Data) (r : Left) → f (left e (yielded made)) ≡ Ok r → IsAgain f e made r

-- what chooses nothing
plainly : (g : Bindings → Result Bindings EffectFault) → Redoes (λ l. and_then (g l.bindings) (λ e. Ok (left e l.source)))
plainly g e made r h = by_result (g e) refl h
  where
    by_result : (s : Result Bindings EffectFault) → g e ≡ s → and_then s (λ f. Ok (left f (yielded made))) ≡ Ok r → IsAgain (λ l. and_then (g l.bindings) (λ e. Ok (left e l.source))) e made r
    by_result (Ok f) k h =
        let same : left f (yielded made) ≡ r = cc in
        record {
          taken = [];
          source = rw (← same) (ap yielded (sym (append-nil made)));
          again = λ more. rw k (ap (λ (m : Left). Ok (left m.bindings (given more))) same);
        }
    by_result (Err f) k h = absurd (cc)

-- one computation after another
in_turn : (f g : Left → Result Left EffectFault) → Redoes f → Redoes g → Redoes (λ l. and_then (f l) g)
in_turn f g redo_f redo_g e made r h = by_first (f (left e (yielded made))) refl h
  where
    by_second : (m : Left) → IsAgain f e made m → g m ≡ Ok r → IsAgain (λ l. and_then (f l) g) e made r
    by_second m there k =
        let at : m ≡ left m.bindings (yielded (made ++ there.taken)) = ap (λ (c : Source). left m.bindings c) there.source in
        let behind : IsAgain g m.bindings (made ++ there.taken) r = redo_g m.bindings (made ++ there.taken) r (ap g (sym at) ∙ k) in
        record {
          taken = there.taken ++ behind.taken;
          source = behind.source ∙ ap yielded (append_assoc made there.taken behind.taken);
          again = λ more.
              rw (append_assoc there.taken behind.taken more)
              (ap (λ (s : Result Left EffectFault). and_then s g) (there.again (behind.taken ++ more)) ∙ behind.again more);
        }

    by_first : (s : Result Left EffectFault) → f (left e (yielded made)) ≡ s → and_then s g ≡ Ok r → IsAgain (λ l. and_then (f l) g) e made r
    by_first (Ok m) k h = by_second m (redo_f e made m k) h
    by_first (Err f) k h = absurd (cc)

-- one of two, by a test that chooses nothing
by_tests : (t : Bindings → Result Bool TermFault) (f g : Left → Result Left EffectFault) → Redoes f → Redoes g → Redoes (λ l. if_answered (t l.bindings) (f l) (g l))
by_tests t f g redo_f redo_g e made r h = by_result (t e) refl h
  where
    by_result : (s : Result Bool TermFault) → t e ≡ s → if_answered s (f (left e (yielded made))) (g (left e (yielded made))) ≡ Ok r → IsAgain (λ l. if_answered (t l.bindings) (f l) (g l)) e made r
    by_result (Ok true) k h =
        let there = redo_f e made r h in
        record { taken = there.taken; source = there.source; again = λ more. rw k (there.again more) }
    by_result (Ok false) k h =
        let there = redo_g e made r h in
        record { taken = there.taken; source = there.source; again = λ more. rw k (there.again more) }
    by_result (Err w) k h = absurd (cc)

-- what a choice takes, and that it takes the same if that is given
record IsTakenAgain {N C : Type 0} (c : PlainChoice N C Shape) (e : Bindings) (made : List Data) (v : Chosen) : Type 0 where
  pub source : v.source ≡ yielded (made ++ v.value ∷ [])
  pub again : (more : List Data) → stepwise_taken c (left e (given (v.value ∷ more))) ≡ Ok (chosen v.value (given more))

taken_again : {N C : Type 0} (c : PlainChoice N C Shape) (e : Bindings) (made : List Data) (v : Chosen) → stepwise_taken c (left e (yielded made)) ≡ Ok v → IsTakenAgain c e made v
taken_again c e made v h = by_value (stepwise_answer c.yields e) h
  where
    by_permit : (d : Data) → has_shape c.shape d ≡ true → (q : Result (Unit {0}) EffectFault) → stepwise_permitted (stepwise_test c.condition (with_chosen c.name d e)) ≡ q → and_then q (λ _. Ok (chosen d (yielded (made ++ d ∷ [])))) ≡ Ok v → IsTakenAgain c e made v
    by_permit d has (Ok u) k h =
        let same : chosen d (yielded (made ++ d ∷ [])) ≡ v = cc in
        subst (IsTakenAgain c e made) same (record { source = refl; again = λ more. rw (has, k) refl })
    by_permit d has (Err f) k h = absurd (cc)

    by_shape : (d : Data) (b : Bool) → has_shape c.shape d ≡ b → and_then (and_then (in_effect (range_check [] (if b then Some d else None))) (λ w. Ok (chosen w (yielded (made ++ w ∷ []))))) (λ w. and_then (stepwise_permitted (stepwise_test c.condition (with_chosen c.name w.value e))) (λ _. Ok w)) ≡ Ok v → IsTakenAgain c e made v
    by_shape d true has h = by_permit d has (stepwise_permitted (stepwise_test c.condition (with_chosen c.name d e))) refl h
    by_shape d false has h = absurd (cc)

    by_value : (r : Result Data TermFault) → and_then (and_then (in_effect (and_then r (λ d. range_check [] (fitting_value c.shape d)))) (λ w. Ok (chosen w (yielded (made ++ w ∷ []))))) (λ w. and_then (stepwise_permitted (stepwise_test c.condition (with_chosen c.name w.value e))) (λ _. Ok w)) ≡ Ok v → IsTakenAgain c e made v
    by_value (Ok d) h = by_shape d (has_shape c.shape d) refl h
    by_value (Err f) h = absurd (cc)

-- what is put does not depend on where further choices take their values
record IsPutAgain (f : Source → Result Left EffectFault) (c : Source) (r : Left) : Type 0 where
  pub source : r.source ≡ c
  pub again : (d : Source) → f d ≡ Ok (left r.bindings d)

put_again : (q : Result Bindings EffectFault) (c : Source) (r : Left) → and_then q (λ f. Ok (left f c)) ≡ Ok r → IsPutAgain (λ d. and_then q (λ f. Ok (left f d))) c r
put_again (Ok f) c r h =
    let same : left f c ≡ r = cc in
    subst (IsPutAgain (λ d. Ok (left f d)) c) same (record { source = refl; again = λ d. refl })
put_again (Err w) c r h = absurd (cc)

checked_again : (w : Result Data EffectFault) (x : Name) (s : PlainShape) (e : Bindings) (c : Source) (r : Left) → and_then w (stepwise_put x s e c) ≡ Ok r → IsPutAgain (λ d. and_then w (stepwise_put x s e d)) c r
checked_again (Ok v) x s e c r h = put_again (in_effect (put_fitting_value x s e v)) c r h
checked_again (Err f) x s e c r h = absurd (cc)

-- a choice whose value is put in one way or another
put_chosen_again : {N C : Type 0} (c : PlainChoice N C Shape) (f : Bindings → Chosen → Result Left EffectFault) →
    ((e : Bindings) (v : Chosen) (r : Left) → f e v ≡ Ok r → IsPutAgain (λ d. f e (chosen v.value d)) v.source r) →
    Redoes (λ l. and_then (stepwise_taken c l) (f l.bindings))
put_chosen_again c f puts e made r h = by_taken (stepwise_taken c (left e (yielded made))) refl h
  where
    by_taken : (s : Result Chosen EffectFault) → stepwise_taken c (left e (yielded made)) ≡ s → and_then s (f e) ≡ Ok r → IsAgain (λ l. and_then (stepwise_taken c l) (f l.bindings)) e made r
    by_taken (Ok v) k h =
        let there : IsTakenAgain c e made v = taken_again c e made v k in
        let put : IsPutAgain (λ d. f e (chosen v.value d)) v.source r = puts e v r h in
        record {
          taken = v.value ∷ [];
          source = put.source ∙ there.source;
          again = λ more. rw (there.again more) (put.again (given more));
        }
    by_taken (Err w) k h = absurd (cc)

redo_choose : {N C : Type 0} (p : PlainTarget N C Shape) (c : PlainChoice N C Shape) → Redoes (stepwise_choose p c)
redo_choose (variable x at d) c =
    put_chosen_again c (λ e v. stepwise_put (Word x) d e v.source v.value)
    (λ e v r h. put_again (in_effect (put_fitting_value (Word x) d e v.value)) v.source r h)
redo_choose (at_field x at d f) c =
    put_chosen_again c (λ e v. stepwise_put_checked (Word x) d e v.source (option_and_then (with_field d f v.value) (lookup (Word x) e)))
    (λ e v r h. checked_again (in_effect (checked_result (option_and_then (with_field d f v.value) (lookup (Word x) e)))) (Word x) d e v.source r h)
redo_choose (at_key x at d k) c = λ e made r h. by_key (stepwise_answer k e) refl h
  where
    by_key : {e : Bindings} {made : List Data} {r : Left} (s : Result Data TermFault) → stepwise_answer k e ≡ s → and_then (in_effect s) (λ i. and_then (stepwise_taken c (left e (yielded made))) (λ v. stepwise_put_checked (Word x) d e v.source (option_and_then (updated_map i v.value) (lookup (Word x) e)))) ≡ Ok r → IsAgain (stepwise_choose (at_key x at d k) c) e made r
    by_key {e} {made} {r} (Ok i) k_is h =
        let there : IsAgain (λ l. and_then (stepwise_taken c l) (λ v. stepwise_put_checked (Word x) d l.bindings v.source (option_and_then (updated_map i v.value) (lookup (Word x) l.bindings)))) e made r =
        put_chosen_again c (λ e v. stepwise_put_checked (Word x) d e v.source (option_and_then (updated_map i v.value) (lookup (Word x) e)))
        (λ e v r h. checked_again (in_effect (checked_result (option_and_then (updated_map i v.value) (lookup (Word x) e)))) (Word x) d e v.source r h) e made r h in
        record { taken = there.taken; source = there.source; again = λ more. rw k_is (there.again more) }
    by_key (Err f) k_is h = absurd (cc)

mutual
  redo_one : {N C : Type 0} (s : PlainStatement N C Shape) → Redoes (stepwise_one s)
  redo_one (assign p t) = plainly (λ e. in_effect (stepwise_assigned p t e))
  redo_one (branch arms rest) = redo_choice arms (stepwise_all rest) (redo_all rest)
  redo_one (loop t body) = λ e made r h. absurd (cc)
  redo_one (fire f) = λ e made r h. absurd (cc)
  redo_one (choosing c) = redo_choose c.target c

  redo_choice : {N C : Type 0} (arms : PlainArms N C Shape) (rest : Left → Result Left EffectFault) → Redoes rest → Redoes (λ l. stepwise_choice arms (rest l) l)
  redo_choice no_arms rest h = h
  redo_choice (arm t body more) rest h = by_tests (stepwise_test t) (stepwise_all body) (λ l. stepwise_choice more (rest l) l) (redo_all body) (redo_choice more rest h)

  redo_all : {N C : Type 0} (ss : PlainStatements N C Shape) → Redoes (stepwise_all ss)
  redo_all no_statements = λ e made r h. plainly (λ f. Ok f) e made r h
  redo_all (statement s more) = in_turn (stepwise_one s) (stepwise_all more) (redo_one s) (redo_all more)

-- what an effect chose by its own terms leads to the same if it is given, and nothing is left over
pub redone : {N C : Type 0} (ss : PlainStatements N C Shape) (e : Bindings) (r : Left) → stepwise_all ss (left e (yielded [])) ≡ Ok r →
    (vs : List Data) × (r.source ≡ yielded vs) × (stepwise_all ss (left e (given vs)) ≡ Ok (left r.bindings (given [])))
redone ss e r h =
    let there : IsAgain (stepwise_all ss) e [] r = redo_all ss e [] r h in
    (there.taken, there.source, ap (λ (vs : List Data). stepwise_all ss (left e (given vs))) (sym (append-nil there.taken)) ∙ there.again [])

pub redone_by : {N C : Type 0} (ss : List (PlainStatement N C Shape)) (e : Bindings) (r : Left) → answer_by ss (left e (yielded [])) ≡ Ok r →
    (vs : List Data) × (r.source ≡ yielded vs) × (answer_by ss (left e (given vs)) ≡ Ok (left r.bindings (given [])))
redone_by ss e r h =
    let there = redone (statements_of ss) e r (stepwise_by_is ss (left e (yielded [])) ∙ h) in
    (there.0, there.1, sym (stepwise_by_is ss (left e (given there.0))) ∙ there.2)
