-- What the rules of sorts find of a statement.
use Rattle.std.proofs.Common.{◌≡◌, ℕ, zero, suc, Bool, true, false, IfOk, List, [], ◌∷◌, Option, Some, None, Result, Ok, Err, map, find, slice_get, refl, sym, ap, subst, if◌then◌else◌}
use Rattle.std.specs.List.{AllByRecursion, AllZip}
use Rattle.ioa_values.specs.Outcome.{and_then}
use Rattle.ioa_operators.specs.Shapes.{PlainShape, truths, maps}
use Rattle.ioa_terms.specs.declared.name.Name.TheVariants.{Word}
use Rattle.ioa_terms.specs.PlainTerm.{variable, at_key, at_field, assign, branch, loop, fire, choosing, choice_with, firing, no_statements, statement, statements_of, no_arms, arm, arms_of}
use Rattle.ioa_terms.specs.Resolved.{IsResolved, IsResolvedFiring, IsResolvedChoice, IsResolvedTarget, AreArmsResolved, AreAllResolved}
use Rattle.ioa_terms.specs.declared.tree.Kind.{Kind}
use Rattle.ioa_terms.proofs.SameTerms.{kind_is}
use Rattle.ioa_system.specs.Parts.{PlainRule}
use Rattle.ioa_terms.specs.Sorted.{NameShapes, HasShape, shape_in_terms, shape_named}
use Rattle.ioa_source.specs.Erasure.{erase_term, erase_firing, erase_choice, erase_target, erase_statements, erase_arms}
use Rattle.ioa_source.specs.Sides.{SourceTarget, SourceTerm, SourceStatement, SourceStatements, SourceArms, SourceFiring, SourceChoice, CheckedTerm, CheckedFiring}
use Rattle.ioa_refusals.specs.declared.refusal.Refusal.{Refusal}
use Rattle.ioa_refusals.specs.declared.refusal.Refusal.TheVariants.{Unknown}
use Rattle.ioa_sort_rules.specs.Rows.{entry_of, value_of_field}
use Rattle.ioa_typed.specs.Parts.{SortedTerm}
use Rattle.ioa_sorts.specs.Sorting.{fit, sorting}
use Rattle.ioa_names.specs.Views.{declared_at}
use Rattle.ioa_sorts.specs.Statements.{SortedChoice, SortedStatement, SortedStatements, PlainTypedTarget, typed_target, all_ok, assigned_or, assigned, if_in_block, if_in_effect, simple_shape, same_or, new_name, terms_sorting, shape_sorting, choice_sorting, whole_target, key_target, field_target, target_sorting, assignment_sorting, statement_sorting, statement_sortings, arm_sortings}
use Rattle.ioa_sorts.specs.SortedStatements.{HoldsShape, NamesKind, IsFired, IsChoiceSorted, AreArmsSorted, AreSorted, IsDeterminedTarget, IsDeterminedStatement, AreArmsDetermined, AreStatementsDetermined, IsStatementOf}
use Rattle.ioa_sort_rules.specs.DeclaredTypes.{TupleTypes, IsDeclared, AreAllDeclared}
use Rattle.ioa_sorts.specs.Determined.{IsDetermined}
use Rattle.ioa_sorts.specs.Firings.{is_of_kind, fires, entry_fired, arguments_at, number_fired, firing_at}
use Rattle.ioa_sorts.specs.StatementSites.{PlainStatementSite, IsDeclaredSite}
use Rattle.ioa_sorts.proofs.Lookups.{found_has, found_is}
use Rattle.ioa_sorts.proofs.Chains.{chain}
use Rattle.ioa_sorts.proofs.ChoiceRules.{IsSimpleOf, simple_declared, sort_good, same_good, new_good}
use Rattle.ioa_sorts.proofs.Types.{in_terms, field_declared, entry_declared, AreBoth}
use Rattle.ioa_sorts.proofs.CompleteStatements.{statement_is}
use Rattle.ioa_sorts.proofs.Sound.{IsFound, IsDeclaredAt, IsDeclaredIf, declared_is, field_is, fit_found}

-- a target that is found
record IsTargetOf (types : TupleTypes) (s : PlainStatementSite) (u : SourceTarget) (q : PlainTypedTarget) : Type 0 where
  same : erase_target q.target ≡ u
  resolved : IsResolvedTarget q.target (map (λ n. n.0) s.variables) (map (λ n. n.0) s.names)
  holds : HoldsShape s.variables s.names q.target q.shape
  declared : IsDeclared types q.shape
  determined : IsDeterminedTarget u

-- statements one by one, and arms
record AreStatementsOf (s : PlainStatementSite) (us : SourceStatements) (ss : List SortedStatement) : Type 0 where
  same : erase_statements (statements_of ss) ≡ us
  resolved : AreAllResolved (statements_of ss) (map (λ n. n.0) s.variables) (map (λ n. n.0) s.names)
  sorted : AreSorted s (statements_of ss)
  determined : AreStatementsDetermined us

record IsArmOf (types : TupleTypes) (s : PlainStatementSite) (t : SourceTerm) (body : SourceStatements) (a : SortedTerm × SortedStatements) : Type 0 where
  test : IsFound types s.names t a.0 truths
  same : erase_statements a.1 ≡ body
  resolved : AreAllResolved a.1 (map (λ n. n.0) s.variables) (map (λ n. n.0) s.names)
  sorted : AreSorted s a.1
  determined : AreStatementsDetermined body

record AreArmsOf (s : PlainStatementSite) (us : SourceArms) (ts : List (SortedTerm × SortedStatements)) : Type 0 where
  same : erase_arms (arms_of ts) ≡ us
  resolved : AreArmsResolved (arms_of ts) (map (λ n. n.0) s.variables) (map (λ n. n.0) s.names)
  sorted : AreArmsSorted s (arms_of ts)
  determined : AreArmsDetermined us

-- the arguments of a firing
pub record AreSoundArguments (names : NameShapes) (ss : List PlainShape) (us : List SourceTerm) (cs : List CheckedTerm) : Type 0 where
  pub same : map erase_term cs ≡ us
  pub resolved : AllByRecursion (λ c. IsResolved c (map (λ n. n.0) names)) cs
  pub shaped : AllZip (λ s c. HasShape names c (shape_in_terms s)) ss cs
  pub determined : AllByRecursion IsDetermined us

-- a rule that is fired
record IsRuleFired (o : Option PlainRule) (ss : List PlainShape) : Type 0 where
  rule : PlainRule
  found : o ≡ Some rule
  shapes : rule.shapes ≡ ss

kind_names : (o : Option Kind) (k : Kind) → is_of_kind o k ≡ true → NamesKind o k
kind_names None k h = tt
kind_names (Some j) k h = (kind_is j k).0 h

-- the rule that is found has the number that is found
number_found : (f : SourceFiring) (rules : List PlainRule) (r : PlainRule) → find (fires f) rules ≡ Some r → slice_get rules (number_fired f rules) ≡ Some r
number_found f [] r h = absurd (cc)
number_found f (x ∷ xs) r h = by_test (fires f x) h (number_found f xs r)
  where
    by_test : (b : Bool) → (if b then Some x else find (fires f) xs) ≡ Some r → (find (fires f) xs ≡ Some r → slice_get xs (number_fired f xs) ≡ Some r) → slice_get (x ∷ xs) (if b then zero else suc (number_fired f xs)) ≡ Some r
    by_test true h more = h
    by_test false h more = more h

module _ (types : TupleTypes) (names : NameShapes) (declared_names : AreAllDeclared types names) where
  pub arguments_good : (ss : List PlainShape) (us : List SourceTerm) → AllByRecursion (IsDeclared types) ss → IfOk (arguments_at names ss us) (AreSoundArguments names ss us)
  arguments_good [] [] d = record { same = refl; resolved = tt; shaped = tt; determined = tt }
  arguments_good [] (u ∷ us) d = tt
  arguments_good (s ∷ ss) [] d = tt
  arguments_good (s ∷ ss) (u ∷ us) d =
      chain (λ c. IsFound types names u c (shape_in_terms s)) (AreSoundArguments names (s ∷ ss) (u ∷ us)) (λ c. and_then (arguments_at names ss us) (λ cs. Ok (c ∷ cs))) (fit (sorting names u) (shape_in_terms s)) (fit_found types names declared_names u (shape_in_terms s) (in_terms types s d.0))
      (λ c f. chain (AreSoundArguments names ss us) (AreSoundArguments names (s ∷ ss) (u ∷ us)) (λ cs. Ok (c ∷ cs)) (arguments_at names ss us) (arguments_good ss us d.1)
      (λ cs more. record {
        same = λ i. f.of.same i ∷ more.same i;
        resolved = (f.of.resolved, more.resolved);
        shaped = (f.of.has_shape, more.shaped);
        determined = (f.of.determined, more.determined);
      }))

  module _ (rules : List PlainRule) (declared_rules : AllByRecursion (λ r. AllByRecursion (IsDeclared types) r.shapes) rules) where
    -- what a firing comes to
    record IsFiringOf (f : SourceFiring) (c : CheckedFiring) : Type 0 where
      same : erase_firing c ≡ f
      resolved : IsResolvedFiring c (map (λ n. n.0) names)
      fired : IsFired names rules c
      determined : AllByRecursion IsDetermined f.arguments

    rule_fired : (o : Option PlainRule) → IfOk (entry_fired o) (IsRuleFired o)
    unfolding entry_fired
    rule_fired None = tt
    rule_fired (Some r) = record { rule = r; found = refl; shapes = refl }

    firing_good : (f : SourceFiring) → IfOk (firing_at names rules f) (IsFiringOf f)
    unfolding firing_at
    firing_good f =
        chain (IsRuleFired (find (fires f) rules)) (IsFiringOf f) (λ ss. and_then (arguments_at names ss f.arguments) (λ ts. Ok (firing f.kind f.action (number_fired f rules) ts))) (entry_fired (find (fires f) rules)) (rule_fired (find (fires f) rules))
        (λ ss r.
        let declared = found_has (λ r. AllByRecursion (IsDeclared types) r.shapes) (fires f) rules r.rule declared_rules r.found in
        let is = found_is (λ (r : PlainRule). r.entry.name) (λ (r : PlainRule). is_of_kind f.kind r.entry.kind) f.action rules r.rule r.found in
        chain (AreSoundArguments names ss f.arguments) (IsFiringOf f) (λ ts. Ok (firing f.kind f.action (number_fired f rules) ts)) (arguments_at names ss f.arguments) (arguments_good ss f.arguments (subst (AllByRecursion (IsDeclared types)) r.shapes declared))
        (λ ts a. record {
          same = λ i. firing f.kind f.action tt (a.same i);
          resolved = a.resolved;
          fired = record {
            rule = r.rule;
            numbered = number_found f rules r.rule r.found;
            same_name = is.1;
            of_kind = kind_names f.kind r.rule.entry.kind is.2;
            arguments = subst (λ xs. AllZip (λ s c. HasShape names c (shape_in_terms s)) xs ts) (sym r.shapes) a.shaped;
          };
          determined = a.determined;
        }))

module _ (types : TupleTypes) (s : PlainStatementSite) (site : IsDeclaredSite types s) where
  assigned_good : (x : List ℕ) (o other : Option (ℕ × PlainShape)) → IsDeclaredIf types s.variables (Word x) o → IfOk (assigned_or o other) (IsDeclaredAt types s.variables (Word x))
  unfolding assigned_or
  assigned_good x (Some p) other h = h
  assigned_good x None (Some q) h = tt
  assigned_good x None None h = tt

  variable_good : (x : List ℕ) → IfOk (assigned s x) (IsDeclaredAt types s.variables (Word x))
  variable_good x = assigned_good x (declared_at (Word x) s.variables) (declared_at (Word x) s.all_variables) (declared_is types s.variables (Word x) site.variables)

  whole_good : (x : List ℕ) (p : ℕ × PlainShape) → IsDeclaredAt types s.variables (Word x) p → IsTargetOf types s (variable x tt tt) (whole_target x p)
  unfolding whole_target
  whole_good x p h = record { same = refl; resolved = h.slot; holds = (h.shape, refl); declared = in_terms types p.1 h.declared; determined = tt }

  key_good : (x : List ℕ) (k : SourceTerm) (p : ℕ × PlainShape) → IsDeclaredAt types s.variables (Word x) p → IfOk (key_target s.names x k p) (IsTargetOf types s (at_key x tt tt k))
  unfolding key_target
  key_good x k p h =
      chain (λ e. AreBoth types e × (shape_in_terms p.1 ≡ maps e.other e.whole)) (IsTargetOf types s (at_key x tt tt k)) (λ e. and_then (fit (sorting s.names k) e.other) (λ t. Ok (typed_target (at_key x p.0 p.1 t) e.whole))) (entry_of (shape_in_terms p.1)) (entry_declared types (shape_in_terms p.1) (in_terms types p.1 h.declared))
      (λ e d. chain (λ t. IsFound types s.names k t e.other) (IsTargetOf types s (at_key x tt tt k)) (λ t. Ok (typed_target (at_key x p.0 p.1 t) e.whole)) (fit (sorting s.names k) e.other) (fit_found types s.names site.names k e.other d.0.0)
      (λ t f. record {
        same = ap (at_key x tt tt) f.of.same;
        resolved = (h.slot, f.of.resolved);
        holds = (e.other, h.shape, d.1, f.of.has_shape);
        declared = d.0.1;
        determined = f.of.determined;
      }))

  field_good : (x f : List ℕ) (p : ℕ × PlainShape) → IsDeclaredAt types s.variables (Word x) p → IfOk (field_target x f p) (IsTargetOf types s (at_field x tt tt f))
  unfolding field_target
  field_good x f p h = by_value (value_of_field f p.1) refl (field_declared types f p.1 h.declared)
    where
      by_value : (r : Result PlainShape Refusal) → value_of_field f p.1 ≡ r → IfOk r (IsDeclared types) → IfOk (and_then r (λ u. Ok (typed_target (at_field x p.0 p.1 f) u))) (IsTargetOf types s (at_field x tt tt f))
      by_value (Ok u) e d = record { same = refl; resolved = h.slot; holds = (h.shape, field_is f p.1 u e); declared = d; determined = tt }
      by_value (Err x) e d = tt

  target_good : (u : SourceTarget) → IfOk (target_sorting s u) (IsTargetOf types s u)
  target_good (variable x at d) = chain (IsDeclaredAt types s.variables (Word x)) (IsTargetOf types s (variable x tt tt)) (λ p. Ok (whole_target x p)) (assigned s x) (variable_good x) (whole_good x)
  target_good (at_key x at d k) = chain (IsDeclaredAt types s.variables (Word x)) (IsTargetOf types s (at_key x tt tt k)) (key_target s.names x k) (assigned s x) (variable_good x) (key_good x k)
  target_good (at_field x at d f) = chain (IsDeclaredAt types s.variables (Word x)) (IsTargetOf types s (at_field x tt tt f)) (field_target x f) (assigned s x) (variable_good x) (field_good x f)

  assignment_good : (p : SourceTarget) (t : SourceTerm) → IfOk (assignment_sorting s p t) (IsStatementOf s (assign p t))
  assignment_good p t =
      chain (IsTargetOf types s p) (IsStatementOf s (assign p t)) (λ q. and_then (fit (sorting s.names t) q.shape) (λ v. Ok (assign q.target v))) (target_sorting s p) (target_good p)
      (λ q h. chain (λ v. IsFound types s.names t v q.shape) (IsStatementOf s (assign p t)) (λ v. Ok (assign q.target v)) (fit (sorting s.names t) q.shape) (fit_found types s.names site.names t q.shape h.declared)
      (λ v f. record {
        same = λ i. assign (h.same i) (f.of.same i);
        resolved = (h.resolved, f.of.resolved);
        sorted = (q.shape, h.holds, f.of.has_shape);
        determined = (h.determined, f.of.determined);
      }))

  fire_good : (f : SourceFiring) → IfOk (statement_sorting s (fire f)) (IsStatementOf s (fire f))
  fire_good f =
      chain (IsFiringOf types s.names site.names s.rules site.rules f) (IsStatementOf s (fire f)) (λ c. Ok (fire c)) (firing_at s.names s.rules f) (firing_good types s.names site.names s.rules site.rules f)
      (λ c h. record { same = ap fire h.same; resolved = h.resolved; sorted = h.fired; determined = h.determined })

  -- what only a block has
  block_good : {A : Type 0} (P : A → Type 0) (r : Result A Refusal) → IfOk r P → IfOk (if_in_block s.in_block r) (λ v. (s.in_block ≡ true) × P v)
  unfolding if_in_block
  block_good {A} P r h = by_site s.in_block refl
    where
      both : (r : Result A Refusal) → IfOk r P → s.in_block ≡ true → IfOk r (λ v. (s.in_block ≡ true) × P v)
      both (Ok v) k e = (e, k)
      both (Err f) k e = tt

      by_site : (b : Bool) → s.in_block ≡ b → IfOk (if b then r else Err Unknown) (λ v. (s.in_block ≡ true) × P v)
      by_site true e = both r h e
      by_site false e = tt

  -- a choice that is found
  record IsChoiceOf (u : SourceChoice) (c : SortedChoice) : Type 0 where
    same : erase_choice c ≡ u
    resolved : IsResolvedChoice c (map (λ n. n.0) s.variables) (map (λ n. n.0) s.names)
    sorted : IsChoiceSorted s c
    determined : IsDeterminedStatement (choosing u)

  module _ (outside : s.in_block ≡ false) (c : SourceChoice) where
    terms_good : (q : PlainTypedTarget) (d : PlainShape) → IsTargetOf types s c.target q → IsSimpleOf s.types c.sort d → shape_in_terms d ≡ q.shape → shape_named (Word c.name) s.names ≡ None → IfOk (terms_sorting s c q.target d) (IsChoiceOf c)
    unfolding terms_sorting
    terms_good q d p m same new =
        chain (λ t. IsFound types ((Word c.name, d) ∷ s.names) c.condition t truths) (IsChoiceOf c) (λ t. and_then (fit (sorting s.names c.yields) (shape_in_terms d)) (λ u. Ok (choice_with q.target c.name c.sort d t u))) (fit (sorting ((Word c.name, d) ∷ s.names) c.condition) truths) (fit_found types ((Word c.name, d) ∷ s.names) (simple_declared types d m.1, site.names) c.condition truths tt)
        (λ t f. chain (λ u. IsFound types s.names c.yields u (shape_in_terms d)) (IsChoiceOf c) (λ u. Ok (choice_with q.target c.name c.sort d t u)) (fit (sorting s.names c.yields) (shape_in_terms d)) (fit_found types s.names site.names c.yields (shape_in_terms d) (in_terms types d (simple_declared types d m.1)))
        (λ u g. record {
          same = λ i. choice_with (p.same i) c.name c.sort tt (f.of.same i) (g.of.same i);
          resolved = (p.resolved, f.of.resolved, g.of.resolved);
          sorted = record {
            outside = outside;
            means = m.0;
            simple = m.1;
            target = subst (HoldsShape s.variables s.names q.target) (sym same) p.holds;
            new = new;
            condition = f.of.has_shape;
            yields = g.of.has_shape;
          };
          determined = (p.determined, f.of.determined, g.of.determined);
        }))

    shape_good : (q : PlainTypedTarget) (d : PlainShape) → IsTargetOf types s c.target q → IsSimpleOf s.types c.sort d → IfOk (shape_sorting s c q d) (IsChoiceOf c)
    unfolding shape_sorting
    shape_good q d p m =
        chain (λ _. shape_in_terms d ≡ q.shape) (IsChoiceOf c) (λ _. and_then (new_name c.name s.names) (λ _. terms_sorting s c q.target d)) (same_or (shape_in_terms d) q.shape) (same_good types (shape_in_terms d) q.shape (in_terms types d (simple_declared types d m.1)) p.declared)
        (λ _ same. chain (λ _. shape_named (Word c.name) s.names ≡ None) (IsChoiceOf c) (λ _. terms_sorting s c q.target d) (new_name c.name s.names) (new_good c.name s.names)
        (λ _ new. terms_good q d p m same new))

    choice_good : IfOk (choice_sorting s c) (IsChoiceOf c)
    unfolding choice_sorting
    choice_good =
        chain (IsTargetOf types s c.target) (IsChoiceOf c) (λ q. and_then (simple_shape s.types c.sort) (shape_sorting s c q)) (target_sorting s c.target) (target_good c.target)
        (λ q p. chain (IsSimpleOf s.types c.sort) (IsChoiceOf c) (shape_sorting s c q) (simple_shape s.types c.sort) (sort_good s.types c.sort) (λ d m. shape_good q d p m))

  -- only an effect has a choice
  choosing_good : (c : SourceChoice) → IfOk (statement_sorting s (choosing c)) (IsStatementOf s (choosing c))
  unfolding if_in_effect
  choosing_good c = by_site s.in_block refl
    where
      by_site : (b : Bool) → s.in_block ≡ b → IfOk (and_then (if b then Err Unknown else choice_sorting s c) (λ d. Ok (choosing d))) (IsStatementOf s (choosing c))
      by_site true e = tt
      by_site false e = chain (IsChoiceOf c) (IsStatementOf s (choosing c)) (λ d. Ok (choosing d)) (choice_sorting s c) (choice_good e c)
          (λ d h. record { same = ap choosing h.same; resolved = h.resolved; sorted = h.sorted; determined = h.determined })

  mutual
    pub statement_good : (u : SourceStatement) → IfOk (statement_sorting s u) (IsStatementOf s u)
    statement_good (assign p t) = assignment_good p t
    statement_good (branch arms rest) =
        chain (AreArmsOf s arms) (IsStatementOf s (branch arms rest)) (λ ts. and_then (all_ok (statement_sortings s rest)) (λ ss. Ok (branch (arms_of ts) (statements_of ss)))) (all_ok (arm_sortings s arms)) (arms_good arms)
        (λ ts a. chain (AreStatementsOf s rest) (IsStatementOf s (branch arms rest)) (λ ss. Ok (branch (arms_of ts) (statements_of ss))) (all_ok (statement_sortings s rest)) (statements_good rest)
        (λ ss b. record {
          same = λ i. branch (a.same i) (b.same i);
          resolved = (a.resolved, b.resolved);
          sorted = (a.sorted, b.sorted);
          determined = (a.determined, b.determined);
        }))
    statement_good (loop t body) =
        chain (λ v. (s.in_block ≡ true) × IsFound types s.names t v truths) (IsStatementOf s (loop t body)) (λ v. and_then (all_ok (statement_sortings s body)) (λ ss. Ok (loop v (statements_of ss)))) (if_in_block s.in_block (fit (sorting s.names t) truths))
        (block_good (λ v. IsFound types s.names t v truths) (fit (sorting s.names t) truths) (fit_found types s.names site.names t truths tt))
        (λ v f. chain (AreStatementsOf s body) (IsStatementOf s (loop t body)) (λ ss. Ok (loop v (statements_of ss))) (all_ok (statement_sortings s body)) (statements_good body)
        (λ ss b. record {
          same = λ i. loop (f.1.of.same i) (b.same i);
          resolved = (f.1.of.resolved, b.resolved);
          sorted = (f.0, f.1.of.has_shape, b.sorted);
          determined = (f.1.of.determined, b.determined);
        }))
    statement_good (fire f) = fire_good f
    statement_good (choosing c) = choosing_good c

    statements_good : (us : SourceStatements) → IfOk (all_ok (statement_sortings s us)) (AreStatementsOf s us)
    statements_good no_statements = record { same = refl; resolved = tt; sorted = tt; determined = tt }
    statements_good (statement u us) =
        chain (IsStatementOf s u) (AreStatementsOf s (statement u us)) (λ x. and_then (all_ok (statement_sortings s us)) (λ xs. Ok (x ∷ xs))) (statement_sorting s u) (statement_good u)
        (λ x a. chain (AreStatementsOf s us) (AreStatementsOf s (statement u us)) (λ xs. Ok (x ∷ xs)) (all_ok (statement_sortings s us)) (statements_good us)
        (λ xs b. record {
          same = λ i. statement (a.same i) (b.same i);
          resolved = (a.resolved, b.resolved);
          sorted = (a.sorted, b.sorted);
          determined = (a.determined, b.determined);
        }))

    arms_good : (us : SourceArms) → IfOk (all_ok (arm_sortings s us)) (AreArmsOf s us)
    arms_good no_arms = record { same = refl; resolved = tt; sorted = tt; determined = tt }
    arms_good (arm t body us) =
        chain (IsArmOf types s t body) (AreArmsOf s (arm t body us)) (λ a. and_then (all_ok (arm_sortings s us)) (λ ts. Ok (a ∷ ts))) (and_then (fit (sorting s.names t) truths) (λ v. and_then (all_ok (statement_sortings s body)) (λ ss. Ok (v, statements_of ss))))
        (chain (λ v. IsFound types s.names t v truths) (IsArmOf types s t body) (λ v. and_then (all_ok (statement_sortings s body)) (λ ss. Ok (v, statements_of ss))) (fit (sorting s.names t) truths) (fit_found types s.names site.names t truths tt)
        (λ v f. chain (AreStatementsOf s body) (IsArmOf types s t body) (λ ss. Ok (v, statements_of ss)) (all_ok (statement_sortings s body)) (statements_good body)
        (λ ss b. record { test = f; same = b.same; resolved = b.resolved; sorted = b.sorted; determined = b.determined })))
        (λ a one. chain (AreArmsOf s us) (AreArmsOf s (arm t body us)) (λ ts. Ok (a ∷ ts)) (all_ok (arm_sortings s us)) (arms_good us)
        (λ ts more. record {
          same = λ i. arm (one.test.of.same i) (one.same i) (more.same i);
          resolved = (one.test.of.resolved, one.resolved, more.resolved);
          sorted = (one.test.of.has_shape, one.sorted, more.sorted);
          determined = (one.test.of.determined, one.determined, more.determined);
        }))

  -- the law
  pub statement_sound : (u : SourceStatement) (x : SortedStatement) → statement_is x ≡ statement_sorting s u → IsStatementOf s u x
  statement_sound u x e = by_found (subst (λ r. IfOk r (IsStatementOf s u)) (sym e) (statement_good u))
    where
      by_found : IsStatementOf s u x → IsStatementOf s u x
      by_found h = h
