-- The terms of an accepted system have their shapes throughout.
use Rattle.std.proofs.Common.{◌≡◌, ℤ, ℕ, true, false, List, [], ◌∷◌, ◌++◌, Option, Some, None, IfOk, Result, Ok, Err, refl, ap, subst, ◌∙◌, map, take, length, slice_get}
use Rattle.std.specs.List.{AllByRecursion, AllZip, Contains}
use Rattle.ioa_values.specs.Data.{Data}
use Rattle.ioa_operators.specs.Shapes.{PlainShape, truths, has_shape}
use Rattle.ioa_operators.specs.declared.shape.Shape.{Shape}
use Rattle.ioa_terms.specs.declared.callee.Callee.{Callee}
use Rattle.ioa_terms.specs.declared.name.Name.{Name}
use Rattle.ioa_terms.specs.declared.name.Name.TheVariants.{Word}
use Rattle.ioa_terms.specs.Bindings.{Bindings, names_of}
use Rattle.ioa_terms.specs.Choices.{Left, left, Chosen, Lack}
use Rattle.ioa_terms.specs.Meaning.{value}
use Rattle.ioa_terms.specs.Performance.{after_one, target_name, target_shape, value_chosen, with_chosen}
use Rattle.ioa_terms.specs.PlainTerm.{PlainTerm, PlainTarget, variable, at_key, at_field, PlainChoice, PlainStatement, PlainStatements, PlainArms, assign, branch, loop, fire, choosing, no_statements, statement, no_arms, arm, statements_of}
use Rattle.ioa_terms.specs.Sorted.{NameShapes, HasShape, shape_named, shape_in_terms, IsShaped}
use Rattle.ioa_terms.proofs.ShapesKept.{shape_in_terms_has}
use Rattle.ioa_terms.proofs.Statements.{after_names}
use Rattle.ioa_actions.specs.ActionParts.{action_arguments}
use Rattle.ioa_actions.specs.declared.action.Action.{Action}
use Rattle.ioa_source.specs.PlainText.{const, named}
use Rattle.ioa_source.specs.Sides.{SourceEntry, SourceParameter, SourceTerm, SourceText, SourceTransition, CheckedDeclared, CheckedFiring, CheckedParameter, CheckedTerm, CheckedVariable}
use Rattle.ioa_system.specs.InView.{entry_constant, entry_condition, guard_or_effect, given_bindings}
use Rattle.ioa_system.specs.Parts.{PlainRule}
use Rattle.ioa_system.specs.Systems.{SystemParts}
use Rattle.ioa_sorts.specs.SortedStatements.{HoldsShape, IsChoiceSorted, IsFired, IsSorted, AreSorted, AreArmsSorted}
use Rattle.ioa_sorts.specs.StatementSites.{PlainStatementSite, effect_site}
use Rattle.ioa_automata.specs.NamesInView.{parameter_shapes, shape_declared, variable_shapes, inbox_shapes}
use Rattle.ioa_automata.specs.SortedAutomata.{block_names, block_of, AreParametersOf, IsConditionOf, IsParameterOf, IsRuleOf, names_at}
use Rattle.ioa_types.specs.TextTypes.{PlainTextTypes}
use Rattle.ioa_types.specs.TypeTables.{TypeTable}
use Rattle.ioa_automata.proofs.CheckedAutomata.{automaton_checked}
use Rattle.ioa_sections.specs.Meant.{IsEntryOn}
use Rattle.ioa_check.specs.Systems.{IsSystemOf}
use Rattle.ioa_transitions.specs.NodeState.{NodeState}
use Rattle.ioa_transitions.specs.NodeStep.{IsOfSort, rule_bindings}
use Rattle.ioa_compose.specs.declared.configuration.Conf.{Conf}
use Rattle.ioa_compose.specs.declared.configuration.Conf.TheVariants.{Node, Queue}
use Rattle.ioa_run_laws.specs.Shaped.{IsShapedNode, AreShaped}
use Rattle.ioa_run_laws.specs.Parts.{HasShapeThroughout}
use Rattle.ioa_run_laws.specs.WellSorted.{IsTruthValued, TargetTakes, IsAssignmentWellSorted, IsTakenWellSorted, IsChoiceWellSorted, IsConstantSorted, IsWellSorted, AreArmsWellSorted, AreWellSorted, AreConstantsValued, IsRuleWellSorted, IsFiringWellSorted, IsBlockWellSorted, AreBlockArmsWellSorted, AreBlockWellSorted, block_read, IsNodeWellSorted, AreConfsWellSorted}
use Rattle.ioa_run_laws.proofs.Accepted.{IsAcceptedProgram, each_related, is_accepted, system_constants}
use Rattle.ioa_run_laws.proofs.Assigned.{assigned_has, given_has}
use Rattle.ioa_run_laws.proofs.Effects.{all_sorted, chosen_has, found_in_front, statement_shaped, target_declared}
use Rattle.ioa_run_laws.proofs.Environments.{block_reads, block_valued, given_names, given_valued}
use Rattle.ioa_run_laws.proofs.Numbered.{shaped_more}
use Rattle.ioa_run_laws.proofs.Starts.{initial_fit}
use Rattle.ioa_run_laws.proofs.NodeSteps.{is_rule, rule_names, rule_valued}
use Rattle.ioa_run_laws.proofs.Throughout.{HasValuesOf, declared_value, throughout}

-- a guard or a condition
guard_truth : (names : NameShapes) (e : Bindings) → HasValuesOf names e → (o : Option SourceTerm) (c : Option CheckedTerm) → IsConditionOf names o c → IsTruthValued c e
guard_truth names e g None None h = tt
guard_truth names e g None (Some c) h = absurd h
guard_truth names e g (Some u) None h = absurd h
guard_truth names e g (Some u) (Some c) h = throughout names e g c truths h.has_shape

-- an assignment
module _ (variables names : NameShapes) (declared : (x : Name) (s : PlainShape) → shape_named x variables ≡ Some s → shape_named x names ≡ Some s) (e : Bindings) (g : HasValuesOf names e) where
  target_takes : (p : PlainTarget ℕ Callee Shape) (s : PlainShape) → HoldsShape variables names p s → TargetTakes e p s
  target_takes (variable x at d) s h = h.1
  target_takes (at_key x at d k) s h = (h.0, h.2, throughout names e g k h.0 h.3)
  target_takes (at_field x at d w) s h = h.1

  assignment_sorted : (p : PlainTarget ℕ Callee Shape) (t : PlainTerm ℕ Callee Shape) (s : PlainShape) → HoldsShape variables names p s → HasShape names t s → IsAssignmentWellSorted e p t
  assignment_sorted p t s h k = record {
    before = declared_value names e g (target_name p) (target_shape p) (declared (target_name p) (target_shape p) (target_declared variables names p s h));
    shape = s;
    target = target_takes p s h;
    assigned = throughout names e g t s k;
    given = assigned_has names e g.shaped variables (λ x d found. declared (Word x) d found) p t s h k;
  }

  -- a choice
  taken_sorted : (c : PlainChoice ℕ Callee Shape) (s : PlainShape) → HoldsShape variables names c.target (shape_in_terms s) → HasShape ((Word c.name, s) ∷ names) c.condition truths → (v : Data) → has_shape s v ≡ true → IsTakenWellSorted e c v
  taken_sorted c s target condition v has = record {
    condition = throughout ((Word c.name, s) ∷ names) (with_chosen c.name v e) front c.condition truths condition;
    given = given_has names e g.shaped variables (λ x d found. declared (Word x) d found) c.target (shape_in_terms s) v target (shape_in_terms_has s v has);
  }
    where
      front : HasValuesOf ((Word c.name, s) ∷ names) (with_chosen c.name v e)
      front = record { named = ap (λ (ns : List Name). Word c.name ∷ ns) g.named; shaped = shaped_more (Word c.name) s v names e has g.shaped }

-- what holds of a chosen value by its shape
if_chosen : (s : PlainShape) (Q : Chosen → Type 0) (r : Result Chosen Lack) → IfOk r (λ v. has_shape s v.value ≡ true) → ((v : Chosen) → has_shape s v.value ≡ true → Q v) → IfOk r Q
if_chosen s Q (Err f) h g = tt
if_chosen s Q (Ok v) h g = g v h

-- what holds of all that a statement may leave: the names stay, with values of their shapes
further : (names : NameShapes) (l : Left) (Q : Left → Type 0) (r : Result Left Lack) → names_of l.bindings ≡ map (λ n. n.0) names → ((m : Left) → r ≡ Ok m → names_of m.bindings ≡ names_of l.bindings) → IfOk r (λ m. IsShaped names m.bindings) → ((m : Left) → HasValuesOf names m.bindings → Q m) → IfOk r Q
further names l Q (Err f) same kept h g = tt
further names l Q (Ok m) same kept h g = g m (record { named = kept m refl ∙ same; shaped = h })

-- statements
module _ (types : TypeTable) (variables names : NameShapes) (declared : (x : Name) (s : PlainShape) → shape_named x variables ≡ Some s → shape_named x names ≡ Some s) where
  choice_sorted : (c : PlainChoice ℕ Callee Shape) (l : Left) → IsChoiceSorted (effect_site types variables names) c → HasValuesOf names l.bindings → IsChoiceWellSorted c l
  choice_sorted c l h g = record {
    before = declared_value names l.bindings g (target_name c.target) (target_shape c.target) (declared (target_name c.target) (target_shape c.target) (target_declared variables names c.target (shape_in_terms c.shape) h.target));
    target = target_takes variables names declared l.bindings g c.target (shape_in_terms c.shape) h.target;
    yields = throughout names l.bindings g c.yields (shape_in_terms c.shape) h.yields;
    taken = if_chosen c.shape (λ v. IsTakenWellSorted l.bindings c v.value) (value_chosen c.shape (value c.yields l.bindings) l.source) (chosen_has c.shape (value c.yields l.bindings) l.source)
        (λ v k. taken_sorted variables names declared l.bindings g c c.shape h.target h.condition v.value k);
  }

  mutual
    statement_sorted : (s : PlainStatement ℕ Callee Shape) (l : Left) → IsSorted (effect_site types variables names) s → HasValuesOf names l.bindings → IsWellSorted s l
    statement_sorted (assign p t) l h g = assignment_sorted variables names declared l.bindings g p t h.0 h.1 h.2
    statement_sorted (branch arms rest) l h g = (arms_sorted arms l h.0 g, statements_sorted rest l h.1 g)
    statement_sorted (loop t body) l h g = let f : false ≡ true = h.0 in absurd (cc)
    statement_sorted (fire f) l h g = let none : slice_get [] f.rule ≡ Some h.rule = h.numbered in absurd (cc)
    statement_sorted (choosing c) l h g = choice_sorted c l h g

    arms_sorted : (arms : PlainArms ℕ Callee Shape) (l : Left) → AreArmsSorted (effect_site types variables names) arms → HasValuesOf names l.bindings → AreArmsWellSorted arms l
    arms_sorted no_arms l h g = tt
    arms_sorted (arm t body more) l h g = (throughout names l.bindings g t truths h.0, statements_sorted body l h.1 g, arms_sorted more l h.2 g)

    statements_sorted : (ss : PlainStatements ℕ Callee Shape) (l : Left) → AreSorted (effect_site types variables names) ss → HasValuesOf names l.bindings → AreWellSorted ss l
    statements_sorted no_statements l h g = tt
    statements_sorted (statement s more) l h g = (
      statement_sorted s l h.0 g,
      further names l (AreWellSorted more) (after_one s l) g.named (λ m k. after_names (s ∷ []) l m (rw k refl)) (statement_shaped types variables names declared s l h.0 g.shaped) (λ m k. statements_sorted more m h.1 k),
    )

-- the arguments of a firing
arguments_sorted : (names : NameShapes) (e : Bindings) → HasValuesOf names e → (ss : List PlainShape) (ts : List CheckedTerm) → AllZip (λ s t. HasShape names t (shape_in_terms s)) ss ts → AllZip (λ s t. HasShapeThroughout e t (shape_in_terms s)) ss ts
arguments_sorted names e g [] [] h = tt
arguments_sorted names e g [] (t ∷ ts) h = absurd h
arguments_sorted names e g (s ∷ ss) [] h = absurd h
arguments_sorted names e g (s ∷ ss) (t ∷ ts) h = (throughout names e g t (shape_in_terms s) h.0, arguments_sorted names e g ss ts h.1)

-- the block's own variables come first among the names in view
own_first : (ws : List CheckedVariable) (is more cs : NameShapes) → take (length ws) (((variable_shapes ws ++ is) ++ more) ++ cs) ≡ variable_shapes ws
own_first [] is more cs = refl
own_first (w ∷ ws) is more cs = ap (λ (ns : NameShapes). shape_declared w.declared ∷ ns) (own_first ws is more cs)

-- statements of a schedule block
module _ (own : List CheckedVariable) (site : PlainStatementSite) (inside : site.in_block ≡ true) (first : site.variables ≡ variable_shapes own) (declared : (x : Name) (s : PlainShape) → shape_named x site.variables ≡ Some s → shape_named x site.names ≡ Some s) (e : Bindings) (g : HasValuesOf site.names e) where
  firing_sorted : (f : CheckedFiring) → IsFired site.names site.rules f → IsFiringWellSorted site.rules f e
  firing_sorted f h = record {
    rule = h.rule;
    numbered = h.numbered;
    name = h.same_name;
    arguments = arguments_sorted site.names e g h.rule.shapes f.arguments h.arguments;
  }

  mutual
    one_block_sorted : (s : PlainStatement ℕ Callee Shape) → IsSorted site s → IsBlockWellSorted own site.rules s e
    one_block_sorted (assign p t) h = (
      subst (λ (vs : NameShapes). shape_named (target_name p) vs ≡ Some (target_shape p)) first (target_declared site.variables site.names p h.0 h.1),
      assignment_sorted site.variables site.names declared e g p t h.0 h.1 h.2,
    )
    one_block_sorted (branch arms rest) h = (block_arms_sorted arms h.0, block_sorted rest h.1)
    one_block_sorted (loop t body) h = (throughout site.names e g t truths h.1, block_sorted body h.2)
    one_block_sorted (fire f) h = firing_sorted f h
    one_block_sorted (choosing c) h = let outside : site.in_block ≡ false = h.outside in absurd (cc)

    block_arms_sorted : (arms : PlainArms ℕ Callee Shape) → AreArmsSorted site arms → AreBlockArmsWellSorted own site.rules arms e
    block_arms_sorted no_arms h = tt
    block_arms_sorted (arm t body more) h = (throughout site.names e g t truths h.0, block_sorted body h.1, block_arms_sorted more h.2)

    block_sorted : (ss : PlainStatements ℕ Callee Shape) → AreSorted site ss → AreBlockWellSorted own site.rules ss e
    block_sorted no_statements h = tt
    block_sorted (statement s more) h = (one_block_sorted s h.0, block_sorted more h.1)

-- the constants of entries
constants_sorted : (types : TypeTable) (names : NameShapes) (e : Bindings) → HasValuesOf names e → (us : List SourceParameter) (ps : List CheckedParameter) (ss : List PlainShape) → AreParametersOf types names us ps ss → AllZip (IsConstantSorted e) ps ss
constants_sorted types names e g [] [] [] h = tt
constants_sorted types names e g [] [] (s ∷ ss) h = absurd h
constants_sorted types names e g [] (p ∷ ps) ss h = absurd h
constants_sorted types names e g (u ∷ us) [] ss h = absurd h
constants_sorted types names e g (u ∷ us) (p ∷ ps) [] h = absurd h
constants_sorted types names e g (u ∷ us) (p ∷ ps) (s ∷ ss) h = (constant_sorted u p h.0, constants_sorted types names e g us ps ss h.1)
  where
    constant_sorted : (u : SourceParameter) (p : CheckedParameter) → IsParameterOf types names u p s → IsConstantSorted e p s
    constant_sorted (const t) (const c) k = throughout names e g c s k.term.has_shape
    constant_sorted (const t) (named d) k = tt
    constant_sorted (named d) (const c) k = absurd k
    constant_sorted (named d) (named c) k = tt

constants_valued : (t : PlainTextTypes) (ps : List CheckedDeclared) (vs : List CheckedVariable) (ts : List SourceTransition) (k : ℤ) (e : Bindings) → HasValuesOf (names_at entry_constant t.constants ps vs []) e →
    (rs : List PlainRule) → AllByRecursion (IsEntryOn e k) rs → AllByRecursion (λ r. (u : SourceEntry) × IsRuleOf t ps vs ts u r) rs → AllByRecursion (AreConstantsValued e) rs
constants_valued t ps vs ts k e g [] h made = tt
constants_valued t ps vs ts k e g (r ∷ rs) h made = (
  (h.0.constants, constants_sorted t.types (names_at entry_constant t.constants ps vs []) e g made.0.0.parameters r.entry.parameters r.shapes made.0.1.parameters),
  constants_valued t ps vs ts k e g rs h.1 made.1,
)

-- a node with its declared shapes
module _ (x : SourceText) (s : SystemParts) (h : IsSystemOf x s) (c : NodeState) (shaped : IsShapedNode s c) where
  accepted : IsAcceptedProgram h.types c.program
  accepted = is_accepted x s h c.program shaped.program

  rule_sorted : (a : Action) (r : PlainRule) → Contains c.program.automaton.rules r → AllZip IsOfSort r.entry.parameters (action_arguments a) → IsRuleWellSorted c a r
  rule_sorted a r present sorts =
      let made = is_rule h.types c.program accepted r present in
      let b = c.program.automaton in
      let names = names_at guard_or_effect h.types.constants b.parameters b.variables r.entry.parameters in
      let variables = take (length b.variables) names in
      let declared = λ (y : Name) (t : PlainShape) (found : shape_named y variables ≡ Some t). found_in_front y (length b.variables) names t found in
      let g = rule_valued x s h c shaped guard_or_effect r a sorts in
      record {
        names = λ site. rule_names x s h c shaped site r a sorts;
        condition = guard_truth (names_at entry_condition h.types.constants b.parameters b.variables r.entry.parameters) (rule_bindings entry_condition r a c) (rule_valued x s h c shaped entry_condition r a sorts) made.0.condition r.entry.condition made.1.condition;
        guard = guard_truth names (rule_bindings guard_or_effect r a c) g made.1.written.pre r.transition.pre made.1.transition.pre;
        effect = λ source. statements_sorted h.types.types variables names declared (statements_of r.transition.effect) (left (rule_bindings guard_or_effect r a c) source) (all_sorted (effect_site h.types.types variables names) made.1.written.effect r.transition.effect made.1.transition.effect) g;
      }

  pub node_sorted : IsNodeWellSorted c
  node_sorted =
      let b = c.program.automaton in
      let names = block_names h.types.constants b.parameters b.variables b.schedule.variables b.rules in
      let count = length b.schedule.variables in
      let site = block_of names b.variables b.schedule.variables b.rules in
      record {
        slots = automaton_checked h.types (system_constants x s h).named accepted.source b accepted.automaton;
        given_names = given_names h.types b accepted.automaton.constants (system_constants x s h) c.program.arguments shaped.arguments;
        constants = constants_valued h.types b.parameters b.variables accepted.source.transitions c.program.node (given_bindings b c.program.arguments)
            (given_valued h.types b accepted.automaton.constants (system_constants x s h) c.program.arguments shaped.arguments)
            b.rules accepted.program.entries
            (each_related (IsRuleOf h.types b.parameters b.variables accepted.source.transitions) accepted.source.signature b.rules accepted.automaton.rules);
        rules = rule_sorted;
        block_starts = initial_fit (given_bindings b c.program.arguments) b.schedule.variables c.program.block accepted.program.block;
        block_names = λ is own seen fits. block_reads h.types b accepted.automaton.constants (system_constants x s h) c.program.arguments c.variables is own shaped.arguments shaped.variables seen fits;
        block = λ is own seen fits. block_sorted b.schedule.variables site refl (own_first b.schedule.variables (inbox_shapes b.rules) (variable_shapes b.variables ++ parameter_shapes b.parameters) h.types.constants) (λ y t found. found_in_front y count names t found) (block_read c is own)
            (block_valued h.types b accepted.automaton.constants (system_constants x s h) c.program.arguments c.variables is own shaped.arguments shaped.variables seen fits)
            (statements_of b.schedule.statements) (all_sorted site accepted.source.schedule.statements b.schedule.statements accepted.automaton.schedule.statements);
      }

-- configurations with their declared shapes
pub confs_sorted : (x : SourceText) (s : SystemParts) (cs : List Conf) → IsSystemOf x s → AreShaped s cs → AreConfsWellSorted cs
confs_sorted x s [] h g = tt
confs_sorted x s (Node c ∷ cs) h g = (node_sorted x s h c g.0, confs_sorted x s cs h g.1)
confs_sorted x s (Queue q ∷ cs) h g = (tt, confs_sorted x s cs h g.1)
