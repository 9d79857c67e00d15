-- The rules of sorts find each statement of the text whose sorts are right.
use Rattle.std.proofs.Common.{◌≡◌, ℕ, zero, suc, Bool, true, false, List, [], ◌∷◌, Option, Some, None, Result, Ok, map, find, slice_get, refl, sym, ap, subst, ◌∙◌}
use Rattle.std.specs.List.{AllByRecursion, AllZip, IsDistinct}
use Rattle.ioa_operators.specs.Shapes.{PlainShape, truths, maps}
use Rattle.ioa_operators.specs.declared.shape.Shape.{Shape}
use Rattle.ioa_terms.specs.declared.callee.Callee.{Callee}
use Rattle.ioa_terms.specs.declared.name.Name.TheVariants.{Word}
use Rattle.ioa_terms.specs.PlainTerm.{variable, at_key, at_field, assign, branch, loop, fire, choosing, no_statements, statement, statements_of, PlainArms, no_arms, arm, arms_of}
use Rattle.ioa_terms.specs.Resolved.{IsResolvedTarget, IsResolvedFiring, IsResolvedChoice, IsResolvedStatement, AreArmsResolved, AreAllResolved}
use Rattle.ioa_terms.specs.declared.tree.Kind.{Kind}
use Rattle.ioa_terms.specs.Bindings.{same_word}
use Rattle.ioa_terms.proofs.SameTerms.{kind_is}
use Rattle.std.proofs.lemmas.Slice.Eq.{bytes_eq-Decides}
use Rattle.ioa_system.specs.Parts.{PlainRule, rule_names}
use Rattle.ioa_terms.specs.Sorted.{NameShapes, HasShape, shape_in_terms}
use Rattle.ioa_source.specs.Erasure.{erase_term, erase_firing, erase_choice, erase_target, erase_statement, erase_statements, erase_arms}
use Rattle.ioa_source.specs.Sides.{SourceFiring, SourceStatement, CheckedTerm, CheckedFiring}
use Rattle.ioa_refusals.specs.declared.refusal.Refusal.{Refusal}
use Rattle.ioa_sort_rules.specs.Rows.{value_of_field}
use Rattle.ioa_typed.specs.Parts.{SortedTerm}
use Rattle.ioa_sorts.specs.Sorting.{fit, sorting}
use Rattle.ioa_names.specs.Views.{declared_at}
use Rattle.ioa_sorts.specs.Statements.{SortedTarget, SortedChoice, SortedStatement, SortedStatements, PlainTypedTarget, typed_target, all_ok, assigned_or, if_in_block, whole_target, key_target, field_target, target_sorting, assignment_sorting, terms_sorting, shape_sorting, choice_sorting, statement_sorting, statement_sortings, arm_sortings}
use Rattle.ioa_sorts.specs.SortedStatements.{HoldsShape, NamesKind, IsFired, IsChoiceSorted, IsSorted, AreArmsSorted, AreSorted, IsDeterminedTarget, IsDeterminedStatement, AreArmsDetermined, AreStatementsDetermined, IsStatementOf}
use Rattle.ioa_sorts.specs.Determined.{IsDetermined}
use Rattle.ioa_terms.specs.Resolved.{IsResolved}
use Rattle.ioa_sorts.specs.Firings.{is_of_kind, fires, entry_fired, arguments_at, number_fired, firing_at}
use Rattle.ioa_sorts.specs.StatementSites.{PlainStatementSite}
use Rattle.ioa_sorts.proofs.Lookups.{contained_at, contained_has, keys_all, present_found}
use Rattle.ioa_sorts.proofs.ChoiceRules.{new_passed, outside_passed, same_passed, sort_passed}
use Rattle.ioa_sorts.proofs.Complete.{named_is_at, declared_found, field_found, finds}

abbrev pub target_is : SortedTarget → PlainShape → Result PlainTypedTarget Refusal
target_is p s = Ok (typed_target p s)

abbrev pub statement_is : SortedStatement → Result SortedStatement Refusal
statement_is s = Ok s

abbrev term_is : SortedTerm → Result SortedTerm Refusal
term_is t = Ok t

-- statements and arms as lists
abbrev listed_statements : SortedStatements → List SortedStatement
listed_statements no_statements = []
listed_statements (statement s more) = s ∷ listed_statements more

statements_listed : (ss : SortedStatements) → statements_of (listed_statements ss) ≡ ss
statements_listed no_statements = refl
statements_listed (statement s more) = ap (statement s) (statements_listed more)

abbrev listed_arms : PlainArms ℕ Callee Shape → List (SortedTerm × SortedStatements)
listed_arms no_arms = []
listed_arms (arm t body more) = (t, body) ∷ listed_arms more

arms_listed : (ts : PlainArms ℕ Callee Shape) → arms_of (listed_arms ts) ≡ ts
arms_listed no_arms = refl
arms_listed (arm t body more) = ap (arm t body) (arms_listed more)

abbrev statements_are : List SortedStatement → Result (List SortedStatement) Refusal
statements_are ss = Ok ss

abbrev arms_are : List (SortedTerm × SortedStatements) → Result (List (SortedTerm × SortedStatements)) Refusal
arms_are ts = Ok ts

abbrev typed_is : PlainTypedTarget → Result PlainTypedTarget Refusal
typed_is q = Ok q

abbrev pair_is : ℕ → PlainShape → Result (ℕ × PlainShape) Refusal
pair_is at d = Ok (at, d)

assigned_found : (at : ℕ) (d : PlainShape) (other : Option (ℕ × PlainShape)) → pair_is at d ≡ assigned_or (named_is_at at d) other
unfolding assigned_or
assigned_found at d other = refl

whole_found : (x : List ℕ) (at : ℕ) (d : PlainShape) → typed_target (variable x at d) (shape_in_terms d) ≡ whole_target x (at, d)
unfolding whole_target
whole_found x at d = refl

abbrev choice_is : SortedChoice → Result SortedChoice Refusal
choice_is c = Ok c

abbrev firing_is : CheckedFiring → Result CheckedFiring Refusal
firing_is f = Ok f

abbrev terms_are : List CheckedTerm → Result (List CheckedTerm) Refusal
terms_are ts = Ok ts

abbrev shapes_are : List PlainShape → Result (List PlainShape) Refusal
shapes_are ss = Ok ss

kind_named : (o : Option Kind) (k : Kind) → NamesKind o k → is_of_kind o k ≡ true
kind_named None k h = refl
kind_named (Some j) k h = (kind_is j k).1 h

fired_found : (r : PlainRule) → shapes_are r.shapes ≡ entry_fired (Some r)
unfolding entry_fired
fired_found r = refl

-- rules that differ in name: the rule of a firing's name and kind has the firing's number
pub number_is : (f : SourceFiring) (rules : List PlainRule) → IsDistinct same_word (rule_names rules) → (k : ℕ) (r : PlainRule) → slice_get rules k ≡ Some r → r.entry.name ≡ f.action → is_of_kind f.kind r.entry.kind ≡ true → number_fired f rules ≡ k
unfolding IsDistinct
number_is f [] d k r h n t = absurd (cc)
number_is f (x ∷ xs) d zero r h n t =
    let same : x ≡ r = cc in
    let named : same_word x.entry.name f.action ≡ true = (bytes_eq-Decides x.entry.name f.action).1 (ap (λ (z : PlainRule). z.entry.name) same ∙ n) in
    let passes : is_of_kind f.kind x.entry.kind ≡ true = subst (λ (z : PlainRule). is_of_kind f.kind z.entry.kind ≡ true) (sym same) t in
    rw (named, passes) refl
number_is f (x ∷ xs) d (suc k) r h n t =
    let apart : same_word x.entry.name r.entry.name ≡ false = contained_has (λ (z : PlainRule). same_word x.entry.name z.entry.name ≡ false) xs r (keys_all (λ v. same_word x.entry.name v ≡ false) (λ (z : PlainRule). z.entry.name) xs d.0) (contained_at xs k r h) in
    let other : same_word x.entry.name f.action ≡ false = subst (λ (v : List ℕ). same_word x.entry.name v ≡ false) n apart in
    rw other (ap suc (number_is f xs d.1 k r h n t))

allowed_found : {A : Type 0} (b : Bool) → b ≡ true → (r : Result A Refusal) → r ≡ if_in_block b r
unfolding if_in_block
allowed_found true e r = refl
allowed_found false e r = absurd (cc)

module _ (names : NameShapes) where
  term_found : (t : SortedTerm) (s : PlainShape) → HasShape names t s → IsResolved t (map (λ n. n.0) names) → IsDetermined (erase_term t) → term_is t ≡ fit (sorting names (erase_term t)) s
  term_found t s h r d = (finds names t s h r d).fits

  key_found : (x : List ℕ) (at : ℕ) (d : PlainShape) (k : SortedTerm) (keys s : PlainShape) → shape_in_terms d ≡ maps keys s → term_is k ≡ fit (sorting names (erase_term k)) keys → target_is (at_key x at d k) s ≡ key_target names x (erase_term k) (at, d)
  unfolding key_target
  key_found x at d k keys s e f = rw (e, ← f) refl

  field_target_found : (x f : List ℕ) (at : ℕ) (d s : PlainShape) → value_of_field f d ≡ Ok s → target_is (at_field x at d f) s ≡ field_target x f (at, d)
  unfolding field_target
  field_target_found x f at d s e = rw e refl

  arguments_found : (ss : List PlainShape) (cs : List CheckedTerm) → AllZip (λ s c. HasShape names c (shape_in_terms s)) ss cs → AllByRecursion (λ c. IsResolved c (map (λ n. n.0) names)) cs → AllByRecursion IsDetermined (map erase_term cs) → terms_are cs ≡ arguments_at names ss (map erase_term cs)
  arguments_found [] [] h r g = refl
  arguments_found [] (c ∷ cs) h r g = absurd h
  arguments_found (s ∷ ss) [] h r g = absurd h
  arguments_found (s ∷ ss) (c ∷ cs) h r g = rw (← term_found c (shape_in_terms s) h.0 r.0 g.0, ← arguments_found ss cs h.1 r.1 g.1) refl

  module _ (rules : List PlainRule) (differ : IsDistinct same_word (map (λ r. r.entry.name) rules)) where
    rule_found : (f : CheckedFiring) (h : IsFired names rules f) → Some h.rule ≡ find (fires (erase_firing f)) rules
    rule_found f h =
        present_found (λ (r : PlainRule). r.entry.name) (λ (r : PlainRule). is_of_kind f.kind r.entry.kind) f.action rules differ h.rule (contained_at rules f.rule h.rule h.numbered) h.same_name (kind_named f.kind h.rule.entry.kind h.of_kind)

    firing_found : (f : CheckedFiring) → IsFired names rules f → IsResolvedFiring f (map (λ n. n.0) names) → AllByRecursion IsDetermined (map erase_term f.arguments) → firing_is f ≡ firing_at names rules (erase_firing f)
    unfolding firing_at
    firing_found f h r g = rw (← rule_found f h, ← fired_found h.rule, ← arguments_found h.rule.shapes f.arguments h.arguments r g, number_is (erase_firing f) rules differ f.rule h.rule h.numbered h.same_name (kind_named f.kind h.rule.entry.kind h.of_kind)) refl

module _ (s : PlainStatementSite) (differ : IsDistinct same_word (map (λ r. r.entry.name) s.rules)) where
  target_found : (p : SortedTarget) (u : PlainShape) → HoldsShape s.variables s.names p u → IsResolvedTarget p (map (λ n. n.0) s.variables) (map (λ n. n.0) s.names) → IsDeterminedTarget (erase_target p) → target_is p u ≡ target_sorting s (erase_target p)
  target_found (variable x at d) u h r g = rw (← declared_found s.variables (Word x) at d r h.0, ← assigned_found at d (declared_at (Word x) s.all_variables), h.1) (ap typed_is (whole_found x at d))
  target_found (at_key x at d k) u h r g = rw (← declared_found s.variables (Word x) at d r.0 h.1, ← assigned_found at d (declared_at (Word x) s.all_variables)) (key_found s.names x at d k h.0 u h.2 (term_found s.names k h.0 h.3 r.1 g))
  target_found (at_field x at d f) u h r g = rw (← declared_found s.variables (Word x) at d r h.0, ← assigned_found at d (declared_at (Word x) s.all_variables)) (field_target_found s.names x f at d u (field_found f d u h.1))

  assignment_found : (p : SortedTarget) (t : SortedTerm) → IsSorted s (assign p t) → IsResolvedStatement (assign p t) (map (λ n. n.0) s.variables) (map (λ n. n.0) s.names) → IsDeterminedStatement (erase_statement (assign p t)) → statement_is (assign p t) ≡ assignment_sorting s (erase_target p) (erase_term t)
  assignment_found p t h r g = rw (← target_found p h.0 h.1 r.0 g.0, ← term_found s.names t h.0 h.2 r.1 g.1) refl

  terms_found : (c : SortedChoice) → IsChoiceSorted s c → IsResolvedChoice c (map (λ n. n.0) s.variables) (map (λ n. n.0) s.names) → IsDeterminedStatement (erase_statement (choosing c)) → choice_is c ≡ terms_sorting s (erase_choice c) c.target c.shape
  unfolding terms_sorting
  terms_found c h r g = rw (← term_found ((Word c.name, c.shape) ∷ s.names) c.condition truths h.condition r.1 g.1, ← term_found s.names c.yields (shape_in_terms c.shape) h.yields r.2 g.2) refl

  shape_found : (c : SortedChoice) → IsChoiceSorted s c → choice_is c ≡ terms_sorting s (erase_choice c) c.target c.shape → choice_is c ≡ shape_sorting s (erase_choice c) (typed_target c.target (shape_in_terms c.shape)) c.shape
  unfolding shape_sorting
  shape_found c h e = rw (← same_passed (shape_in_terms c.shape), ← new_passed c.name s.names h.new) e

  choice_found : (c : SortedChoice) → IsChoiceSorted s c → IsResolvedChoice c (map (λ n. n.0) s.variables) (map (λ n. n.0) s.names) → IsDeterminedStatement (erase_statement (choosing c)) → choice_is c ≡ choice_sorting s (erase_choice c)
  unfolding choice_sorting
  choice_found c h r g = rw (← target_found c.target (shape_in_terms c.shape) h.target r.0 g.0, ← sort_passed s.types c.sort c.shape h.means h.simple) (shape_found c h (terms_found c h r g))

  mutual
    pub statement_found : (x : SortedStatement) → IsSorted s x → IsResolvedStatement x (map (λ n. n.0) s.variables) (map (λ n. n.0) s.names) → IsDeterminedStatement (erase_statement x) → statement_is x ≡ statement_sorting s (erase_statement x)
    statement_found (assign p t) h r g = assignment_found p t h r g
    statement_found (branch arms rest) h r g = rw (← arms_found arms h.0 r.0 g.0, ← statements_found rest h.1 r.1 g.1, arms_listed arms, statements_listed rest) refl
    statement_found (loop t body) h r g =
        rw (← term_found s.names t truths h.1 r.0 g.0, ← allowed_found s.in_block h.0 (term_is t), ← statements_found body h.2 r.1 g.1, statements_listed body) refl
    statement_found (fire f) h r g = rw (← firing_found s.names s.rules differ f h r g) refl
    statement_found (choosing c) h r g = rw (← choice_found c h r g, ← outside_passed s.in_block h.outside (choice_is c)) refl

    statements_found : (xs : SortedStatements) → AreSorted s xs → AreAllResolved xs (map (λ n. n.0) s.variables) (map (λ n. n.0) s.names) → AreStatementsDetermined (erase_statements xs) → statements_are (listed_statements xs) ≡ all_ok (statement_sortings s (erase_statements xs))
    statements_found no_statements h r g = refl
    statements_found (statement x xs) h r g = rw (← statement_found x h.0 r.0 g.0, ← statements_found xs h.1 r.1 g.1) refl

    arms_found : (xs : PlainArms ℕ Callee Shape) → AreArmsSorted s xs → AreArmsResolved xs (map (λ n. n.0) s.variables) (map (λ n. n.0) s.names) → AreArmsDetermined (erase_arms xs) → arms_are (listed_arms xs) ≡ all_ok (arm_sortings s (erase_arms xs))
    arms_found no_arms h r g = refl
    arms_found (arm t body xs) h r g = rw (← term_found s.names t truths h.0 r.0 g.0, ← statements_found body h.1 r.1 g.1, ← arms_found xs h.2 r.2 g.2, statements_listed body) refl

  -- the law
  pub statement_complete : (u : SourceStatement) (x : SortedStatement) → IsStatementOf s u x → statement_is x ≡ statement_sorting s u
  statement_complete u x h = subst (λ v. IsDeterminedStatement v → statement_is x ≡ statement_sorting s v) h.same (λ d. statement_found x h.sorted h.resolved d) h.determined
