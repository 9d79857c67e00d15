-- An automaton with slots and shapes is ready to step: each name is resolved to the slot of its value.
use Rattle.std.proofs.Common.{◌≡◌, ◌<◌, ℕ, zero, suc, List, [], ◌∷◌, ◌++◌, Option, Some, None, refl, sym, ap, subst, ◌∙◌, map, length, take, arith}
use Rattle.std.specs.List.{All, AllByRecursion, AllZip, slice_index_or}
use Rattle.std.proofs.lemmas.List.{append_assoc, map-append}
use Rattle.ioa_operators.specs.Shapes.{PlainShape}
use Rattle.ioa_terms.specs.declared.name.Name.{Name}
use Rattle.ioa_terms.specs.declared.name.Name.TheVariants.{Word}
use Rattle.ioa_operators.specs.declared.shape.Shape.{Shape}
use Rattle.ioa_terms.specs.declared.callee.Callee.{Callee}
use Rattle.ioa_terms.specs.PlainTerm.{assign, branch, loop, fire, choosing, PlainStatements, no_statements, statement, statements_of, PlainArms, no_arms, arm}
use Rattle.ioa_terms.specs.Resolved.{AreResolved, IsResolvedStatement}
use Rattle.ioa_terms.specs.Sorted.{NameShapes}
use Rattle.ioa_source.specs.PlainText.{const, named}
use Rattle.ioa_source.specs.Sides.{SourceTerm, SourceParameter, SourceEntry, SourceVariable, SourceTransition, SourceStatement, SourceSchedule, SourceAutomaton, CheckedDeclared, CheckedParameter, CheckedTerm, CheckedVariable, CheckedSchedule, CheckedStatement}
use Rattle.ioa_system.specs.InView as view
use Rattle.ioa_system.specs.InView.{Site, in_view, entry_constant, initial_value, entry_condition, guard_or_effect, block_statement, parameter_names, variable_names, own_names, inbox_words, DeclaredNames, scope_at}
use Rattle.ioa_system.specs.Numbered.{IsNumbered, AreArmsNumbered, AreNumbered}
use Rattle.ioa_system.specs.Parts.{AutomatonParts, PlainRule, automaton_parts, message_shape}
use Rattle.ioa_system.specs.ResolvedPrograms.{IsResolvedParameter, AreResolvedParameters, IsResolvedGuard, IsResolvedRule, IsResolvedSchedule, AreResolvedVariables, IsResolvedAutomaton}
use Rattle.ioa_sorts.specs.SortedStatements.{IsSorted, AreArmsSorted, AreSorted, IsStatementOf}
use Rattle.ioa_sorts.specs.StatementSites.{PlainStatementSite, effect_site}
use Rattle.ioa_names.specs.NameTables.{declared_names, words}
use Rattle.ioa_names.specs.Views.{AreWords}
use Rattle.ioa_names.proofs.Words.{names_joined, words_listed}
use Rattle.ioa_types.specs.TextTypes.{PlainTextTypes}
use Rattle.ioa_automata.specs.NamesInView.{parameter_shapes, variable_shapes, own_shapes, inbox_shapes_of, inbox_shapes, block_own_shapes}
use Rattle.ioa_automata.specs.SortedAutomata.{IsVariableOf, IsInitialOf, IsConditionOf, AreParametersOf, IsRuleOf, IsScheduleOf, block_names, block_of, IsAutomatonOf, names_at}

-- the names that each part of an automaton declares are words
named_parameters : (ps : List CheckedDeclared) → declared_names (parameter_shapes ps) ≡ map Word (parameter_names ps)
named_parameters [] = refl
named_parameters (p ∷ ps) = ap (λ ns. Word p.name ∷ ns) (named_parameters ps)

named_variables : (vs : List CheckedVariable) → declared_names (variable_shapes vs) ≡ map Word (variable_names vs)
named_variables [] = refl
named_variables (v ∷ vs) = ap (λ ns. Word v.declared.name ∷ ns) (named_variables vs)

named_own : (ps : List CheckedParameter) → declared_names (own_shapes ps) ≡ map Word (own_names ps)
named_own [] = refl
named_own (const t ∷ ps) = named_own ps
named_own (named d ∷ ps) = ap (λ ns. Word d.name ∷ ns) (named_own ps)

named_inboxes : (o : Option PlainShape) → declared_names (inbox_shapes_of o) ≡ map Word (inbox_words o)
named_inboxes None = refl
named_inboxes (Some s) = refl

pub parameter_words : (ps : List CheckedDeclared) → words (parameter_shapes ps) ≡ parameter_names ps
parameter_words ps = words_listed (parameter_shapes ps) (parameter_names ps) (named_parameters ps)

pub variable_words : (vs : List CheckedVariable) → words (variable_shapes vs) ≡ variable_names vs
variable_words vs = words_listed (variable_shapes vs) (variable_names vs) (named_variables vs)

-- and so are all of them in view
named_both : (xs ys : NameShapes) (vs ws : List (List ℕ)) → declared_names xs ≡ map Word vs → declared_names ys ≡ map Word ws → declared_names (xs ++ ys) ≡ map Word (vs ++ ws)
named_both xs ys vs ws h g = names_joined xs ys ∙ (λ i. h i ++ g i) ∙ sym (map-append Word vs ws)

named_site : (site : Site) (ps vs own : NameShapes) (p v o : List (List ℕ)) → declared_names ps ≡ map Word p → declared_names vs ≡ map Word v → declared_names own ≡ map Word o → declared_names (in_view site ps vs own) ≡ map Word (in_view site p v o)
named_site entry_constant ps vs own p v o f g h = f
named_site initial_value ps vs own p v o f g h = f
named_site entry_condition ps vs own p v o f g h = named_both ps own p o f h
named_site guard_or_effect ps vs own p v o f g h = named_both vs (ps ++ own) v (p ++ o) g (named_both ps own p o f h)
named_site block_statement ps vs own p v o f g h = named_both own (vs ++ ps) o (v ++ p) h (named_both vs ps v p g f)

-- what holds of all holds at each position
all_each : {A : Type 0} (P : A → Type 0) (xs : List A) → AllByRecursion P xs → All P xs
all_each P [] h = λ k d less. absurd (omega (arith, less))
all_each P (x ∷ xs) h = λ k d less. at (all_each P xs h.1) k d less
  where
    at : All P xs → (k : ℕ) (d : _) → k < length (x ∷ xs) → P (slice_index_or (x ∷ xs) k d)
    at rest zero d less = h.0
    at rest (suc k) d less = rest k d (omega (arith, less))

first_variables : (ws : List CheckedVariable) (more : NameShapes) → take (length ws) (variable_shapes ws ++ more) ≡ variable_shapes ws
first_variables [] more = refl
first_variables (w ∷ ws) more = ap (λ ns. (Word w.declared.name, w.declared.shape) ∷ ns) (first_variables ws more)

module _ (t : PlainTextTypes) (ps : List CheckedDeclared) (vs : List CheckedVariable) where
  abbrev declared : DeclaredNames
  declared = record { constants = words t.constants; parameters = parameter_names ps; variables = variable_names vs }

  named_scope : (site : Site) (own : List CheckedParameter) → declared_names (in_view site (parameter_shapes ps) (variable_shapes vs) (own_shapes own)) ≡ map Word (scope_at site declared (own_names own))
  named_scope site own =
      named_site site (parameter_shapes ps) (variable_shapes vs) (own_shapes own) (parameter_names ps) (variable_names vs) (own_names own) (named_parameters ps) (named_variables vs) (named_own own)

  pub scope_words : (site : Site) (own : List CheckedParameter) → words (in_view site (parameter_shapes ps) (variable_shapes vs) (own_shapes own)) ≡ scope_at site declared (own_names own)
  scope_words site own =
      words_listed (in_view site (parameter_shapes ps) (variable_shapes vs) (own_shapes own)) (scope_at site declared (own_names own)) (named_scope site own)

  -- in the schedule block
  named_block : (own : List CheckedVariable) (rs : List PlainRule) → declared_names (in_view block_statement (parameter_shapes ps) (variable_shapes vs) (block_own_shapes own rs)) ≡ map Word (scope_at block_statement declared (variable_names own ++ inbox_words (message_shape rs)))
  named_block own rs =
      named_site block_statement (parameter_shapes ps) (variable_shapes vs) (block_own_shapes own rs) (parameter_names ps) (variable_names vs) (variable_names own ++ inbox_words (message_shape rs)) (named_parameters ps) (named_variables vs)
      (named_both (variable_shapes own) (inbox_shapes rs) (variable_names own) (inbox_words (message_shape rs)) (named_variables own) (named_inboxes (message_shape rs)))

  pub block_words : (own : List CheckedVariable) (rs : List PlainRule) → words (in_view block_statement (parameter_shapes ps) (variable_shapes vs) (block_own_shapes own rs)) ≡ scope_at block_statement declared (variable_names own ++ inbox_words (message_shape rs))
  block_words own rs =
      words_listed (in_view block_statement (parameter_shapes ps) (variable_shapes vs) (block_own_shapes own rs)) (scope_at block_statement declared (variable_names own ++ inbox_words (message_shape rs))) (named_block own rs)

module _ (t : PlainTextTypes) (alone : AreWords t.constants) (ps : List CheckedDeclared) (vs : List CheckedVariable) where
  abbrev these : DeclaredNames
  these = declared t ps vs

  -- behind the names in view are the text's constants
  read_names : (site : Site) (own : List CheckedParameter) → declared_names (names_at site t.constants ps vs own) ≡ view.names_at site these (own_names own)
  read_names site own =
      names_joined (in_view site (parameter_shapes ps) (variable_shapes vs) (own_shapes own)) t.constants
      ∙ (λ i. named_scope t ps vs site own i ++ alone i)

  block_read_names : (own : List CheckedVariable) (rs : List PlainRule) → declared_names (block_names t.constants ps vs own rs) ≡ view.names_at block_statement these (variable_names own ++ inbox_words (message_shape rs))
  block_read_names own rs =
      names_joined (in_view block_statement (parameter_shapes ps) (variable_shapes vs) (block_own_shapes own rs)) t.constants
      ∙ (λ i. named_block t ps vs own rs i ++ alone i)

  -- a condition or a guard, and parameters
  guard_resolved : (site : Site) (own : List CheckedParameter) (o : Option SourceTerm) (c : Option CheckedTerm) → IsConditionOf (names_at site t.constants ps vs own) o c → IsResolvedGuard c (view.names_at site these (own_names own))
  guard_resolved site own None None h = tt
  guard_resolved site own None (Some c) h = absurd h
  guard_resolved site own (Some u) None h = absurd h
  guard_resolved site own (Some u) (Some c) h = subst (λ ns. IsResolvedGuard (Some c) ns) (read_names site own) h.resolved

  parameters_resolved : (us : List SourceParameter) (cs : List CheckedParameter) (ss : List PlainShape) → AreParametersOf t.types (names_at entry_constant t.constants ps vs []) us cs ss → AreResolvedParameters (view.names_at entry_constant these []) cs
  parameters_resolved [] [] ss h = tt
  parameters_resolved [] (c ∷ cs) ss h = absurd h
  parameters_resolved (u ∷ us) [] ss h = absurd h
  parameters_resolved (u ∷ us) (c ∷ cs) [] h = absurd h
  parameters_resolved (const u ∷ us) (const c ∷ cs) (s ∷ ss) h =
      (subst (λ ns. IsResolvedParameter ns (const c)) (read_names entry_constant []) h.0.term.resolved, parameters_resolved us cs ss h.1)
  parameters_resolved (const u ∷ us) (named c ∷ cs) (s ∷ ss) h = absurd h.0
  parameters_resolved (named u ∷ us) (const c ∷ cs) (s ∷ ss) h = absurd h.0
  parameters_resolved (named u ∷ us) (named c ∷ cs) (s ∷ ss) h = (tt, parameters_resolved us cs ss h.1)

  -- statements, by the names that they may assign and read
  statements_resolved : (site : PlainStatementSite) (variables names : List Name) → map (λ n. n.0) site.variables ≡ variables → map (λ n. n.0) site.names ≡ names → (us : List SourceStatement) (cs : List CheckedStatement) → AllZip (IsStatementOf site) us cs → AreResolved cs variables names
  statements_resolved site variables names v n [] [] h = tt
  statements_resolved site variables names v n [] (c ∷ cs) h = absurd h
  statements_resolved site variables names v n (u ∷ us) [] h = absurd h
  statements_resolved site variables names v n (u ∷ us) (c ∷ cs) h =
      (subst (λ ns. IsResolvedStatement c ns names) v (subst (λ ns. IsResolvedStatement c (map (λ n. n.0) site.variables) ns) n h.0.resolved), statements_resolved site variables names v n us cs h.1)

  -- the first names are those of the variables
  assigned_names : (ws : List CheckedVariable) (names behind : NameShapes) → names ≡ variable_shapes ws ++ behind → map (λ n. n.0) (take (length ws) names) ≡ map Word (variable_names ws)
  assigned_names ws names behind whole =
      ap (λ (ns : NameShapes). map (λ n. n.0) (take (length ws) ns)) whole ∙ ap (λ (ns : NameShapes). map (λ n. n.0) ns) (first_variables ws behind) ∙ named_variables ws

  -- an effect
  effect_resolved : (own : List CheckedParameter) (us : List SourceStatement) (cs : List CheckedStatement) → AllZip (IsStatementOf (effect_site t.types (take (length vs) (names_at guard_or_effect t.constants ps vs own)) (names_at guard_or_effect t.constants ps vs own))) us cs → AreResolved cs (map Word (variable_names vs)) (view.names_at guard_or_effect these (own_names own))
  effect_resolved own us cs h =
      let names = names_at guard_or_effect t.constants ps vs own in
      let whole = append_assoc (variable_shapes vs) (parameter_shapes ps ++ own_shapes own) t.constants in
      statements_resolved (effect_site t.types (take (length vs) names) names) (map Word (variable_names vs)) (view.names_at guard_or_effect these (own_names own)) (assigned_names vs names ((parameter_shapes ps ++ own_shapes own) ++ t.constants) whole) (read_names guard_or_effect own) us cs h

  rule_resolved : (ts : List SourceTransition) (e : SourceEntry) (r : PlainRule) → IsRuleOf t ps vs ts e r → IsResolvedRule these r
  rule_resolved ts e r h =
      let own = r.entry.parameters in
      record {
        own = h.own;
        parameters = parameters_resolved e.parameters own r.shapes h.parameters;
        condition = guard_resolved entry_condition own e.condition r.entry.condition h.condition;
        guard = guard_resolved guard_or_effect own h.written.pre r.transition.pre h.transition.pre;
        effect = effect_resolved own h.written.effect r.transition.effect h.transition.effect;
      }

  rules_resolved : (ts : List SourceTransition) (es : List SourceEntry) (rs : List PlainRule) → AllZip (IsRuleOf t ps vs ts) es rs → AllByRecursion (IsResolvedRule these) rs
  rules_resolved ts [] [] h = tt
  rules_resolved ts [] (r ∷ rs) h = absurd h
  rules_resolved ts (e ∷ es) [] h = absurd h
  rules_resolved ts (e ∷ es) (r ∷ rs) h = (rule_resolved ts e r h.0, rules_resolved ts es rs h.1)

  -- initial terms
  initial_resolved : (s : PlainShape) (o : Option SourceTerm) (c : Option CheckedTerm) → IsInitialOf (names_at initial_value t.constants ps vs []) s o c → IsResolvedGuard c (view.names_at initial_value these [])
  initial_resolved s None None h = absurd h
  initial_resolved s None (Some c) h = absurd h
  initial_resolved s (Some u) None h = absurd h
  initial_resolved s (Some u) (Some c) h = subst (λ ns. IsResolvedGuard (Some c) ns) (read_names initial_value []) h.resolved

  variables_resolved : (us : List SourceVariable) (cs : List CheckedVariable) → AllZip (IsVariableOf t.types (names_at initial_value t.constants ps vs [])) us cs → AreResolvedVariables (view.names_at initial_value these []) cs
  variables_resolved [] [] h = tt
  variables_resolved [] (c ∷ cs) h = absurd h
  variables_resolved (u ∷ us) [] h = absurd h
  variables_resolved (u ∷ us) (c ∷ cs) h = (initial_resolved c.declared.shape u.initial c.initial h.0.initial, variables_resolved us cs h.1)

  -- the schedule block
  schedule_resolved : (rs : List PlainRule) (s : SourceSchedule) (c : CheckedSchedule) → IsScheduleOf t ps vs rs s c → IsResolvedSchedule these (variable_names c.variables ++ inbox_words (message_shape rs)) c
  schedule_resolved rs s c h =
      let own = c.variables in
      let names = block_names t.constants ps vs own rs in
      let whole = append_assoc (block_own_shapes own rs) (variable_shapes vs ++ parameter_shapes ps) t.constants ∙ append_assoc (variable_shapes own) (inbox_shapes rs) ((variable_shapes vs ++ parameter_shapes ps) ++ t.constants) in
      record {
        initials = variables_resolved s.variables own h.variables;
        statements = statements_resolved (block_of names vs own rs) (map Word (variable_names own)) (view.names_at block_statement these (variable_names own ++ inbox_words (message_shape rs))) (assigned_names own names (inbox_shapes rs ++ ((variable_shapes vs ++ parameter_shapes ps) ++ t.constants)) whole) (block_read_names own rs) s.statements c.statements h.statements;
      }

-- what is sorted bears the numbers of its rules
mutual
  statement_numbered : (site : PlainStatementSite) (s : CheckedStatement) → IsSorted site s → IsNumbered site.rules s
  statement_numbered site (assign p t) h = tt
  statement_numbered site (branch arms rest) h = (arms_numbered site arms h.0, statements_numbered site rest h.1)
  statement_numbered site (loop t body) h = statements_numbered site body h.2
  statement_numbered site (fire f) h = rw h.numbered (ap Some h.same_name)
  statement_numbered site (choosing c) h = tt

  statements_numbered : (site : PlainStatementSite) (ss : PlainStatements ℕ Callee Shape) → AreSorted site ss → AreNumbered site.rules ss
  statements_numbered site no_statements h = tt
  statements_numbered site (statement s more) h = (statement_numbered site s h.0, statements_numbered site more h.1)

  arms_numbered : (site : PlainStatementSite) (arms : PlainArms ℕ Callee Shape) → AreArmsSorted site arms → AreArmsNumbered site.rules arms
  arms_numbered site no_arms h = tt
  arms_numbered site (arm t body more) h = (statements_numbered site body h.1, arms_numbered site more h.2)

each_numbered : (site : PlainStatementSite) (us : List SourceStatement) (cs : List CheckedStatement) → AllZip (IsStatementOf site) us cs → AreNumbered site.rules (statements_of cs)
each_numbered site [] [] h = tt
each_numbered site [] (c ∷ cs) h = absurd h
each_numbered site (u ∷ us) [] h = absurd h
each_numbered site (u ∷ us) (c ∷ cs) h = (statement_numbered site c h.0.sorted, each_numbered site us cs h.1)

pub automaton_checked : (t : PlainTextTypes) → AreWords t.constants → (a : SourceAutomaton) (c : AutomatonParts) → IsAutomatonOf t a c → IsResolvedAutomaton c
automaton_checked t alone a c h = subst IsResolvedAutomaton rebuilt (record {
  rules = all_each (IsResolvedRule (declared t c.parameters c.variables)) c.rules (rules_resolved t alone c.parameters c.variables a.transitions a.signature c.rules h.rules);
  initials = variables_resolved t alone c.parameters c.variables a.states c.variables h.variables;
  schedule = schedule_resolved t alone c.parameters c.variables c.rules a.schedule c.schedule h.schedule;
  numbered = each_numbered (block_of (block_names t.constants c.parameters c.variables c.schedule.variables c.rules) c.variables c.schedule.variables c.rules) a.schedule.statements c.schedule.statements h.schedule.statements;
})
  where
    rebuilt : automaton_parts c.name (words t.constants) c.parameters c.variables c.rules c.schedule ≡ c
    rebuilt = λ i. automaton_parts c.name (sym h.constants i) c.parameters c.variables c.rules c.schedule
