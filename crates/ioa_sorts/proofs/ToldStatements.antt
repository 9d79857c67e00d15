-- The rules refuse a display of a statement for want of a sort only if the displays are not all determined.
use Rattle.std.proofs.Common.{◌≡◌, ℕ, Bool, true, false, List, [], ◌∷◌, Option, Some, None, Result, Ok, Err, find}
use Rattle.std.specs.List.{AllByRecursion}
use Rattle.ioa_values.specs.Outcome.{and_then}
use Rattle.ioa_operators.specs.Shapes.{PlainShape, truths}
use Rattle.ioa_terms.specs.declared.name.Name.TheVariants.{Word}
use Rattle.ioa_terms.specs.PlainTerm.{variable, at_key, at_field, assign, branch, loop, fire, choosing, choice_with, firing, no_statements, statement, statements_of, no_arms, arm, arms_of}
use Rattle.ioa_terms.specs.Sorted.{NameShapes, shape_in_terms}
use Rattle.ioa_source.specs.Sides.{SourceTarget, SourceTerm, SourceStatement, SourceStatements, SourceArms, SourceFiring, SourceChoice}
use Rattle.ioa_system.specs.Parts.{PlainRule}
use Rattle.ioa_refusals.specs.declared.refusal.Refusal.{Refusal}
use Rattle.ioa_refusals.specs.declared.refusal.Refusal.TheVariants.{EmptyOfWhat, ScheduleAssignsState}
use Rattle.ioa_sort_rules.specs.Rows.{entry_of, value_of_field}
use Rattle.ioa_sorts.specs.Sorting.{fit, sorting}
use Rattle.ioa_names.specs.Views.{declared_at}
use Rattle.ioa_sorts.specs.Statements.{SortedTarget, PlainTypedTarget, typed_target, all_ok, assigned_or, assigned, if_in_block, if_in_effect, simple_shape, same_or, new_name, terms_sorting, shape_sorting, choice_sorting, whole_target, key_target, field_target, target_sorting, statement_sorting, statement_sortings, arm_sortings}
use Rattle.ioa_sorts.specs.SortedStatements.{IsDeterminedTarget, IsDeterminedStatement, AreArmsDetermined, AreStatementsDetermined}
use Rattle.ioa_sorts.specs.Determined.{IsDetermined}
use Rattle.ioa_sorts.specs.Firings.{fires, entry_fired, arguments_at, number_fired, firing_at}
use Rattle.ioa_sorts.specs.StatementSites.{PlainStatementSite}
use Rattle.ioa_sorts.proofs.ChoiceRules.{effect_calm, new_calm, same_calm, sort_calm}
use Rattle.ioa_sorts.proofs.Told.{Calmly, Anything, calm_chain, calm_end, sorts_is_calm, unknown_is_calm, entry_calm, field_calm, fit_is_calm, told}

state_is_calm : ScheduleAssignsState ≡ EmptyOfWhat → ⊥
state_is_calm e = absurd (cc)

assigned_calm : (o other : Option (ℕ × PlainShape)) → Calmly Anything (assigned_or o other)
unfolding assigned_or
assigned_calm (Some p) other = tt
assigned_calm None (Some q) = state_is_calm
assigned_calm None None = unknown_is_calm

rule_calm : (o : Option PlainRule) → Calmly Anything (entry_fired o)
unfolding entry_fired
rule_calm None = unknown_is_calm
rule_calm (Some r) = tt

block_calm : {A : Type 0} (b : Bool) (r : Result A Refusal) → Calmly Anything r → Calmly Anything (if_in_block b r)
unfolding if_in_block
block_calm true r h = h
block_calm false r h = unknown_is_calm

module _ (names : NameShapes) where
  key_calm : (x : List ℕ) (k : SourceTerm) → IsDetermined k → (p : ℕ × PlainShape) → Calmly Anything (key_target names x k p)
  unfolding key_target
  key_calm x k d p = calm_chain Anything Anything (λ e. and_then (fit (sorting names k) e.other) (λ t. Ok (typed_target (at_key x p.0 p.1 t) e.whole))) (entry_of (shape_in_terms p.1)) (entry_calm (shape_in_terms p.1))
      (λ e _. calm_end Anything (λ t. typed_target (at_key x p.0 p.1 t) e.whole) (fit (sorting names k) e.other) (fit_is_calm names k e.other d))

  field_target_calm : (x f : List ℕ) (p : ℕ × PlainShape) → Calmly Anything (field_target x f p)
  unfolding field_target
  field_target_calm x f p = calm_end Anything (λ s. typed_target (at_field x p.0 p.1 f) s) (value_of_field f p.1) (field_calm f p.1)

  arguments_calm : (ss : List PlainShape) (us : List SourceTerm) → AllByRecursion IsDetermined us → Calmly Anything (arguments_at names ss us)
  arguments_calm [] [] g = tt
  arguments_calm [] (u ∷ us) g = sorts_is_calm
  arguments_calm (s ∷ ss) [] g = sorts_is_calm
  arguments_calm (s ∷ ss) (u ∷ us) g = calm_chain Anything Anything (λ c. and_then (arguments_at names ss us) (λ cs. Ok (c ∷ cs))) (fit (sorting names u) (shape_in_terms s)) (fit_is_calm names u (shape_in_terms s) g.0)
      (λ c _. calm_end Anything (λ cs. c ∷ cs) (arguments_at names ss us) (arguments_calm ss us g.1))

  firing_calm : (rules : List PlainRule) (f : SourceFiring) → AllByRecursion IsDetermined f.arguments → Calmly Anything (firing_at names rules f)
  unfolding firing_at
  firing_calm rules f g = calm_chain Anything Anything (λ ss. and_then (arguments_at names ss f.arguments) (λ ts. Ok (firing f.kind f.action (number_fired f rules) ts))) (entry_fired (find (fires f) rules)) (rule_calm (find (fires f) rules))
      (λ ss _. calm_end Anything (λ ts. firing f.kind f.action (number_fired f rules) ts) (arguments_at names ss f.arguments) (arguments_calm ss f.arguments g))

module _ (s : PlainStatementSite) where
  variable_calm : (x : List ℕ) → Calmly Anything (assigned s x)
  variable_calm x = assigned_calm (declared_at (Word x) s.variables) (declared_at (Word x) s.all_variables)

  target_calm : (p : SourceTarget) → IsDeterminedTarget p → Calmly Anything (target_sorting s p)
  target_calm (variable x at d) g = calm_end Anything (whole_target x) (assigned s x) (variable_calm x)
  target_calm (at_key x at d k) g = calm_chain Anything Anything (key_target s.names x k) (assigned s x) (variable_calm x) (λ p _. key_calm s.names x k g p)
  target_calm (at_field x at d f) g = calm_chain Anything Anything (field_target x f) (assigned s x) (variable_calm x) (λ p _. field_target_calm s.names x f p)

  terms_calm : (c : SourceChoice) (p : SortedTarget) (d : PlainShape) → IsDeterminedStatement (choosing c) → Calmly Anything (terms_sorting s c p d)
  unfolding terms_sorting
  terms_calm c p d g = calm_chain Anything Anything (λ t. and_then (fit (sorting s.names c.yields) (shape_in_terms d)) (λ u. Ok (choice_with p c.name c.sort d t u))) (fit (sorting ((Word c.name, d) ∷ s.names) c.condition) truths) (fit_is_calm ((Word c.name, d) ∷ s.names) c.condition truths g.1)
      (λ t _. calm_end Anything (λ u. choice_with p c.name c.sort d t u) (fit (sorting s.names c.yields) (shape_in_terms d)) (fit_is_calm s.names c.yields (shape_in_terms d) g.2))

  shape_sorting_calm : (c : SourceChoice) (q : PlainTypedTarget) (d : PlainShape) → IsDeterminedStatement (choosing c) → Calmly Anything (shape_sorting s c q d)
  unfolding shape_sorting
  shape_sorting_calm c q d g = calm_chain Anything Anything (λ _. and_then (new_name c.name s.names) (λ _. terms_sorting s c q.target d)) (same_or (shape_in_terms d) q.shape) (same_calm (shape_in_terms d) q.shape)
      (λ _ _. calm_chain Anything Anything (λ _. terms_sorting s c q.target d) (new_name c.name s.names) (new_calm c.name s.names) (λ _ _. terms_calm c q.target d g))

  choice_calm : (c : SourceChoice) → IsDeterminedStatement (choosing c) → Calmly Anything (choice_sorting s c)
  unfolding choice_sorting
  choice_calm c g = calm_chain Anything Anything (λ q. and_then (simple_shape s.types c.sort) (shape_sorting s c q)) (target_sorting s c.target) (target_calm c.target g.0)
      (λ q _. calm_chain Anything Anything (shape_sorting s c q) (simple_shape s.types c.sort) (sort_calm s.types c.sort) (λ d _. shape_sorting_calm c q d g))

  mutual
    statement_calm : (u : SourceStatement) → IsDeterminedStatement u → Calmly Anything (statement_sorting s u)
    statement_calm (assign p t) g = calm_chain Anything Anything (λ q. and_then (fit (sorting s.names t) q.shape) (λ v. Ok (assign q.target v))) (target_sorting s p) (target_calm p g.0)
        (λ q _. calm_end Anything (λ v. assign q.target v) (fit (sorting s.names t) q.shape) (fit_is_calm s.names t q.shape g.1))
    statement_calm (branch arms rest) g = calm_chain Anything Anything (λ ts. and_then (all_ok (statement_sortings s rest)) (λ ss. Ok (branch (arms_of ts) (statements_of ss)))) (all_ok (arm_sortings s arms)) (arms_calm arms g.0)
        (λ ts _. calm_end Anything (λ ss. branch (arms_of ts) (statements_of ss)) (all_ok (statement_sortings s rest)) (statements_calm rest g.1))
    statement_calm (loop t body) g = calm_chain Anything Anything (λ v. and_then (all_ok (statement_sortings s body)) (λ ss. Ok (loop v (statements_of ss)))) (if_in_block s.in_block (fit (sorting s.names t) truths))
        (block_calm s.in_block (fit (sorting s.names t) truths) (fit_is_calm s.names t truths g.0))
        (λ v _. calm_end Anything (λ ss. loop v (statements_of ss)) (all_ok (statement_sortings s body)) (statements_calm body g.1))
    statement_calm (fire f) g = calm_end Anything (λ c. fire c) (firing_at s.names s.rules f) (firing_calm s.names s.rules f g)
    statement_calm (choosing c) g = calm_end Anything (λ d. choosing d) (if_in_effect s.in_block (choice_sorting s c)) (effect_calm s.in_block (choice_sorting s c) (choice_calm c g))

    statements_calm : (us : SourceStatements) → AreStatementsDetermined us → Calmly Anything (all_ok (statement_sortings s us))
    statements_calm no_statements g = tt
    statements_calm (statement u us) g = calm_chain Anything Anything (λ x. and_then (all_ok (statement_sortings s us)) (λ xs. Ok (x ∷ xs))) (statement_sorting s u) (statement_calm u g.0)
        (λ x _. calm_end Anything (λ xs. x ∷ xs) (all_ok (statement_sortings s us)) (statements_calm us g.1))

    arms_calm : (us : SourceArms) → AreArmsDetermined us → Calmly Anything (all_ok (arm_sortings s us))
    arms_calm no_arms g = tt
    arms_calm (arm t body us) g = calm_chain Anything Anything (λ a. and_then (all_ok (arm_sortings s us)) (λ ts. Ok (a ∷ ts))) (and_then (fit (sorting s.names t) truths) (λ v. and_then (all_ok (statement_sortings s body)) (λ ss. Ok (v, statements_of ss))))
        (calm_chain Anything Anything (λ v. and_then (all_ok (statement_sortings s body)) (λ ss. Ok (v, statements_of ss))) (fit (sorting s.names t) truths) (fit_is_calm s.names t truths g.0)
        (λ v _. calm_end Anything (λ ss. (v, statements_of ss)) (all_ok (statement_sortings s body)) (statements_calm body g.1)))
        (λ a _. calm_end Anything (λ ts. a ∷ ts) (all_ok (arm_sortings s us)) (arms_calm us g.2))

  -- the law
  pub statement_told : (u : SourceStatement) → IsDeterminedStatement u → statement_sorting s u ≡ Err EmptyOfWhat → ⊥
  statement_told u g e = told s.names Anything (statement_sorting s u) (statement_calm u g) e
