-- What statements leave has the shapes of the names in view.
use Rattle.std.proofs.Common.{◌≡◌, ℕ, zero, suc, Bool, true, false, List, [], ◌∷◌, ◌++◌, Option, Some, None, IfOk, Result, Ok, Err, refl, take, if◌then◌else◌}
use Rattle.std.specs.List.{AllZip}
use Rattle.std.specs.Option.{IfSome, option_and_then, option_map}
use Rattle.ioa_values.specs.Data.{Data}
use Rattle.ioa_values.specs.Outcome.{and_then}
use Rattle.ioa_operators.specs.Shapes.{PlainShape, has_shape, with_field}
use Rattle.ioa_operators.specs.declared.shape.Shape.{Shape}
use Rattle.ioa_operators.proofs.Holding.{map_holds, and_then_holds_any, test_holds}
use Rattle.ioa_terms.specs.declared.callee.Callee.{Callee}
use Rattle.ioa_terms.specs.declared.name.Name.{Name}
use Rattle.ioa_terms.specs.declared.name.Name.TheVariants.{Word}
use Rattle.ioa_terms.specs.SameNames.{same_name_is}
use Rattle.ioa_terms.specs.Bindings.{Bindings, same_name, lookup, put}
use Rattle.ioa_terms.specs.PlainTerm.{PlainTarget, variable, at_key, at_field, PlainStatement, PlainStatements, PlainArms, assign, branch, loop, fire, choosing, no_statements, statement, no_arms, arm, statements_of}
use Rattle.ioa_terms.specs.Choices.{Source, given, yielded, Left, left, Chosen, chosen, Lack, no_value, no_choice, or_no_value}
use Rattle.ioa_terms.specs.Meaning.{value}
use Rattle.ioa_terms.specs.Performance.{target_name, target_shape, assignment_value, assigned, fitting_value, test_value, updated_map, value_chosen, taken, put_chosen, after_choose, by_test, after_assign, after_one, after_choice, after_all, after}
use Rattle.ioa_terms.proofs.Statements.{in_any_case, ok_then, or_ok}
use Rattle.ioa_terms.specs.Sorted.{NameShapes, shape_in_terms, shape_named, IsShaped}
use Rattle.ioa_terms.proofs.Assigned.{assigned_value}
use Rattle.ioa_source.specs.Sides.{SourceStatement, CheckedStatement}
use Rattle.ioa_types.specs.TypeTables.{TypeTable}
use Rattle.ioa_sorts.specs.StatementSites.{PlainStatementSite, effect_site}
use Rattle.ioa_sorts.specs.SortedStatements.{HoldsShape, IsSorted, AreSorted, AreArmsSorted, IsStatementOf}

-- a name that is found among the first names is found among all
pub found_in_front : (x : Name) (n : ℕ) (names : NameShapes) (s : PlainShape) → shape_named x (take n names) ≡ Some s → shape_named x names ≡ Some s
found_in_front x zero names s h = absurd (cc)
found_in_front x (suc n) [] s h = h
found_in_front x (suc n) (m ∷ names) s h = by_same (same_name x m.0) h (found_in_front x n names s)
  where
    by_same : (b : Bool) → (if b then Some m.1 else shape_named x (take n names)) ≡ Some s → (shape_named x (take n names) ≡ Some s → shape_named x names ≡ Some s) → (if b then Some m.1 else shape_named x names) ≡ Some s
    by_same true h further = h
    by_same false h further = further h

-- a value of its shape for a name
put_shaped : (names : NameShapes) (e : Bindings) (x : Name) (s : PlainShape) (v : Data) → IsShaped names e → shape_named x names ≡ Some s → has_shape s v ≡ true → IsShaped names (put x v e)
put_shaped names e x s v g declared h = λ y t u named found. by_same y t u (same_name y x) refl named (rw (assigned_value x y v e) at found)
  where
    of_old : (u : Data) (o : Option Data) → option_map (λ (w : Data). v) o ≡ Some u → v ≡ u
    of_old u None k = absurd (cc)
    of_old u (Some w) k = cc

    by_same : (y : Name) (t : PlainShape) (u : Data) (b : Bool) → same_name y x ≡ b → shape_named y names ≡ Some t → (if b then option_map (λ (w : Data). v) (lookup x e) else lookup y e) ≡ Some u → has_shape t u ≡ true
    by_same y t u true q named k =
        let one : y ≡ x = (same_name_is y x).0 q in
        let both : shape_named x names ≡ Some t = rw one at named in
        let shape : s ≡ t = cc in
        let same : v ≡ u = of_old u (lookup x e) k in
        rw (← shape, ← same) h
    by_same y t u false q named k = g y t u named k

-- the annotation of a target is its variable's declared shape
pub target_declared : (variables names : NameShapes) (p : PlainTarget ℕ Callee Shape) (s : PlainShape) → HoldsShape variables names p s → shape_named (target_name p) variables ≡ Some (target_shape p)
target_declared variables names (variable x at d) s h = h.0
target_declared variables names (at_key x at d k) s h = h.1
target_declared variables names (at_field x at d f) s h = h.0

-- what comes after a test
pub after_test : {A : Type 0} (P : A → Type 0) (o : Option Bool) (x y z : A) → P x → P y → P z → P (by_test o x y z)
after_test P None x y z h k l = h
after_test P (Some true) x y z h k l = k
after_test P (Some false) x y z h k l = l

-- statements of a text are sorted
pub all_sorted : (site : PlainStatementSite) (us : List SourceStatement) (ss : List CheckedStatement) → AllZip (IsStatementOf site) us ss → AreSorted site (statements_of ss)
all_sorted site [] [] h = tt
all_sorted site [] (s ∷ ss) h = absurd h
all_sorted site (u ∷ us) [] h = absurd h
all_sorted site (u ∷ us) (s ∷ ss) h = (h.0.sorted, all_sorted site us ss h.1)

-- a value, if there is one and it fits its shape
fitting_has : (s : PlainShape) (o : Option Data) → IfSome (option_and_then (fitting_value s) o) (λ v. has_shape s v ≡ true)
fitting_has s o =
    and_then_holds_any (λ v. has_shape s v ≡ true) (fitting_value s) o (λ v. test_holds (λ v. has_shape s v ≡ true) (has_shape s v) v (λ k. k))

-- what a choice takes has the choice's shape
pub chosen_has : (s : PlainShape) (o : Option Data) (c : Source) → IfOk (value_chosen s o c) (λ v. has_shape s v.value ≡ true)
chosen_has s o (given []) = tt
chosen_has s o (given (v ∷ vs)) = by_shape (has_shape s v) refl
  where
    by_shape : (b : Bool) → has_shape s v ≡ b → IfOk (if b then Ok (chosen v (given vs)) else Err no_choice) (λ w. has_shape s w.value ≡ true)
    by_shape true e = e
    by_shape false e = tt
chosen_has s o (yielded vs) =
    ok_then (λ v. has_shape s v ≡ true) (λ v. has_shape s v.value ≡ true) (or_no_value (option_and_then (fitting_value s) o)) (λ v. Ok (chosen v (yielded (vs ++ v ∷ []))))
    (or_ok (λ v. has_shape s v ≡ true) (option_and_then (fitting_value s) o) (fitting_has s o)) (λ v k. k)

module _ (types : TypeTable) (variables names : NameShapes) (declared : (x : Name) (s : PlainShape) → shape_named x variables ≡ Some s → shape_named x names ≡ Some s) where
  assigned_shaped : (p : PlainTarget ℕ Callee Shape) (s : PlainShape) (e : Bindings) (o : Option Data) → HoldsShape variables names p s → IsShaped names e →
      IfSome (option_map (λ v. put (target_name p) v e) (option_and_then (fitting_value (target_shape p)) o)) (IsShaped names)
  assigned_shaped p s e o h g =
      map_holds Fits (IsShaped names) (λ v. put (target_name p) v e) (option_and_then (fitting_value (target_shape p)) o)
      (fitting_has (target_shape p) o)
      (λ v k. put_shaped names e (target_name p) (target_shape p) v g (declared (target_name p) (target_shape p) (target_declared variables names p s h)) k)
    where
      Fits : Data → Type 0
      Fits v = has_shape (target_shape p) v ≡ true

  -- what is left has the shapes of the names
  abbrev IsLeftShaped : Left → Type 0
  IsLeftShaped m = IsShaped names m.bindings

  left_shaped : (o : Option Bindings) (c : Source) → IfSome o (IsShaped names) → IfOk (after_assign o c) IsLeftShaped
  left_shaped None c h = tt
  left_shaped (Some e) c h = h

  -- a choice
  put_left_shaped : (x : Name) (s : PlainShape) (e : Bindings) (c : Source) (o : Option Data) → shape_named x names ≡ Some s → IsShaped names e → IfOk (put_chosen x s e c o) IsLeftShaped
  put_left_shaped x s e c o h g =
      ok_then (λ w. has_shape s w ≡ true) IsLeftShaped (or_no_value (option_and_then (fitting_value s) o)) (λ w. Ok (left (put x w e) c))
      (or_ok (λ w. has_shape s w ≡ true) (option_and_then (fitting_value s) o) (fitting_has s o)) (λ w k. put_shaped names e x s w g h k)

  choose_shaped : (p : PlainTarget ℕ Callee Shape) (r : Result Chosen Lack) (e : Bindings) → shape_named (target_name p) names ≡ Some (target_shape p) → IsShaped names e → IfOk (after_choose p r e) IsLeftShaped
  choose_shaped (variable x at d) r e h g =
      ok_then (λ c. Unit {0}) IsLeftShaped r (λ c. put_chosen (Word x) d e c.source (Some c.value)) (in_any_case r) (λ c k. put_left_shaped (Word x) d e c.source (Some c.value) h g)
  choose_shaped (at_key x at d u) r e h g =
      ok_then (λ i. Unit {0}) IsLeftShaped (or_no_value (value u e)) (λ i. and_then r (λ c. put_chosen (Word x) d e c.source (option_and_then (updated_map i c.value) (lookup (Word x) e)))) (in_any_case (or_no_value (value u e)))
      (λ i l. ok_then (λ c. Unit {0}) IsLeftShaped r (λ c. put_chosen (Word x) d e c.source (option_and_then (updated_map i c.value) (lookup (Word x) e))) (in_any_case r)
      (λ c k. put_left_shaped (Word x) d e c.source (option_and_then (updated_map i c.value) (lookup (Word x) e)) h g))
  choose_shaped (at_field x at d f) r e h g =
      ok_then (λ c. Unit {0}) IsLeftShaped r (λ c. put_chosen (Word x) d e c.source (option_and_then (with_field d f c.value) (lookup (Word x) e))) (in_any_case r)
      (λ c k. put_left_shaped (Word x) d e c.source (option_and_then (with_field d f c.value) (lookup (Word x) e)) h g)

  mutual
    pub statement_shaped : (s : PlainStatement ℕ Callee Shape) (l : Left) → IsSorted (effect_site types variables names) s → IsShaped names l.bindings → IfOk (after_one s l) IsLeftShaped
    statement_shaped (assign p t) l h g = left_shaped (assigned p t l.bindings) l.source (assigned_shaped p h.0 l.bindings (assignment_value p t l.bindings) h.1 g)
    statement_shaped (branch arms rest) l h g = choice_shaped arms (after_all rest l) l h.0 g (statements_shaped rest l h.1 g)
    statement_shaped (loop t body) l h g = tt
    statement_shaped (fire f) l h g = tt
    statement_shaped (choosing c) l h g =
        choose_shaped c.target (taken c l) l.bindings (declared (target_name c.target) (target_shape c.target) (target_declared variables names c.target (shape_in_terms c.shape) h.target)) g

    choice_shaped : (arms : PlainArms ℕ Callee Shape) (rest : Result Left Lack) (l : Left) → AreArmsSorted (effect_site types variables names) arms → IsShaped names l.bindings → IfOk rest IsLeftShaped → IfOk (after_choice arms rest l) IsLeftShaped
    choice_shaped no_arms rest l h g k = k
    choice_shaped (arm t body more) rest l h g k =
        after_test (λ (r : Result Left Lack). IfOk r IsLeftShaped) (test_value t l.bindings) (Err no_value) (after_all body l) (after_choice more rest l)
        tt (statements_shaped body l h.1 g) (choice_shaped more rest l h.2 g k)

    pub statements_shaped : (ss : PlainStatements ℕ Callee Shape) (l : Left) → AreSorted (effect_site types variables names) ss → IsShaped names l.bindings → IfOk (after_all ss l) IsLeftShaped
    statements_shaped no_statements l h g = g
    statements_shaped (statement s more) l h g =
        ok_then IsLeftShaped IsLeftShaped (after_one s l) (after_all more) (statement_shaped s l h.0 g) (λ m k. statements_shaped more m h.1 k)

  -- what an effect leaves
  pub effect_shaped : (us : List SourceStatement) (ss : List CheckedStatement) (l m : Left) → AllZip (IsStatementOf (effect_site types variables names)) us ss → IsShaped names l.bindings → after ss l ≡ Ok m → IsShaped names m.bindings
  effect_shaped us ss l m h g k = rw k at (statements_shaped (statements_of ss) l (all_sorted (effect_site types variables names) us ss h) g)
