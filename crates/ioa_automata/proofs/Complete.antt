-- Each automaton with slots and shapes is found.
use Rattle.std.proofs.Common.{◌≡◌, ◌&&◌, ℕ, true, false, List, [], ◌∷◌, ◌++◌, Option, Some, None, Result, Ok, refl, sym, ap, subst, ◌∙◌, map, length, take}
use Rattle.std.specs.List.{AllByRecursion, AllZip, IsDistinct, list_all}
use Rattle.std.specs.Option.{is_some}
use Rattle.std.proofs.lemmas.List.{append_assoc}
use Rattle.ioa_operators.specs.Shapes.{PlainShape, truths}
use Rattle.ioa_terms.specs.declared.tree.Kind.{Kind}
use Rattle.ioa_terms.specs.declared.tree.Kind.TheVariants.{Input, Output, Internal}
use Rattle.ioa_terms.specs.Bindings.{same_word}
use Rattle.ioa_terms.specs.PlainTerm.{statements_of}
use Rattle.ioa_terms.proofs.SameTerms.{kind_is}
use Rattle.ioa_terms.specs.SameTerms.{same_kind}
use Rattle.ioa_terms.specs.Sorted.{NameShapes, shape_in_terms}
use Rattle.ioa_source.specs.PlainText.{const, named}
use Rattle.ioa_source.specs.Sides.{SourceTerm, SourceDeclared, SourceParameter, SourceEntry, SourceVariable, SourceTransition, SourceStatement, SourceAutomaton, CheckedTerm, CheckedDeclared, CheckedParameter, CheckedVariable, CheckedTransition, CheckedStatement}
use Rattle.ioa_system.specs.InView.{entry_condition, guard_or_effect, own_names}
use Rattle.ioa_system.specs.Parts.{AutomatonParts, PlainRule}
use Rattle.ioa_refusals.specs.declared.refusal.Refusal.{Refusal}
use Rattle.ioa_typed.specs.Parts.{PlainTyped, typed}
use Rattle.ioa_sorts.specs.Statements.{all_ok, statement_sorting, statement_sortings}
use Rattle.ioa_sorts.specs.SortedStatements.{IsStatementOf}
use Rattle.ioa_sorts.proofs.Complete.{fit_complete, infer_complete}
use Rattle.ioa_sorts.proofs.CompleteStatements.{statement_complete}
use Rattle.ioa_names.specs.NameTables.{AreDistinct, words}
use Rattle.ioa_types.specs.TextTypes.{PlainTextTypes}
use Rattle.ioa_types.specs.TypeTables.{TypeTable}
use Rattle.ioa_types.proofs.TypeDeclarations.{differ_new}
use Rattle.ioa_types.proofs.Meant.{sort_found}
use Rattle.ioa_names.proofs.Names.{all_found, first_differ, new_found, second_differ}
use Rattle.ioa_automata.specs.NamesInView.{block_own_shapes, parameter_shapes, variable_shapes, own_shapes, given_names_or, outer_names_or, own_names_or}
use Rattle.ioa_automata.specs.Parts.{declared_at, all_declared_at, own_or, infer_own, own_term, condition_at, initial_at, variable_at, variables_at, sorted_parameter, parameter_at, sorted_parameters, parameters_at, where_at, PlainSortedEntry, entry_at, transition_at}
use Rattle.ioa_automata.specs.Rules.{transition_for, transition_or, may_have_name, message_at, PlainSurroundings, rule_of, rule_at, rules_at, has_entry, names_or, have_entries}
use Rattle.ioa_automata.specs.Automata.{PlainHeading, heading_at, actions_at, automaton_at}
use Rattle.ioa_automata.specs.SortedAutomata.{IsDeclaredOf, IsOwnTermOf, IsInitialOf, IsVariableOf, IsConditionOf, IsParameterOf, AreParametersOf, IsTransitionOf, IsRuleOf, block_names, block_of, HasItsEntry, IsAutomatonOf, names_at}
use Rattle.ioa_automata.proofs.Loops.{results_are}
use Rattle.ioa_sorts.proofs.Lookups.{present_found}
use Rattle.ioa_sorts.specs.StatementSites.{PlainStatementSite, effect_site}
use Rattle.ioa_automata.specs.Automata.{surroundings}
use Rattle.ioa_automata.specs.Schedules.{schedule_at}
use Rattle.ioa_automata.proofs.BlockNames.{block_found, site_same}
use Rattle.ioa_automata.proofs.Sound.{sortings_listed}
use Rattle.ioa_automata.proofs.SoundRules.{step_view}
use Rattle.ioa_automata.proofs.Results.{result_is, zip_weaker}
use Rattle.ioa_automata.proofs.Heads.{head_is, lacks_input, named_iff}

-- results that are all there
all_ok_all : {A B : Type 0} (f : A → Result B Refusal) (xs : List A) (ys : List B) → AllZip (λ x y. result_is y ≡ f x) xs ys → results_are ys ≡ all_ok (map f xs)
all_ok_all f [] [] h = refl
all_ok_all f [] (y ∷ ys) h = absurd h
all_ok_all f (x ∷ xs) [] h = absurd h
all_ok_all f (x ∷ xs) (y ∷ ys) h = rw (← h.0, ← all_ok_all f xs ys h.1) refl

-- names that differ, in front of constants
given_found : (constants : NameShapes) (ps : List CheckedDeclared) → AreDistinct (parameter_shapes ps ++ constants) → result_is (parameter_shapes ps) ≡ given_names_or constants ps
given_found constants ps d = rw (← all_found [] (parameter_shapes ps) (first_differ (parameter_shapes ps) constants d)) (new_found [] constants (parameter_shapes ps) d)

outer_found : (constants : NameShapes) (ps : List CheckedDeclared) (vs : List CheckedVariable) → AreDistinct ((variable_shapes vs ++ parameter_shapes ps) ++ constants) → result_is (variable_shapes vs ++ parameter_shapes ps) ≡ outer_names_or constants ps vs
outer_found constants ps vs d =
    let names = variable_shapes vs ++ parameter_shapes ps in
    let both = first_differ names constants d in
    rw (← all_found [] (variable_shapes vs) (first_differ (variable_shapes vs) (parameter_shapes ps) both), ← all_found (variable_shapes vs) (parameter_shapes ps) both) (new_found [] constants names d)

own_found : (outer constants : NameShapes) (own : List CheckedParameter) → AreDistinct (outer ++ (own_shapes own ++ constants)) → result_is (own_shapes own) ≡ own_names_or outer constants own
own_found outer constants own d =
    rw (← all_found [] (own_shapes own) (first_differ (own_shapes own) constants (second_differ outer (own_shapes own ++ constants) d))) (new_found outer constants (own_shapes own) d)

-- statements one by one
pub statements_found : (site : PlainStatementSite) → IsDistinct same_word (map (λ r. r.entry.name) site.rules) → (ss : List SourceStatement) (cs : List CheckedStatement) → AllZip (IsStatementOf site) ss cs → results_are cs ≡ all_ok (statement_sortings site (statements_of ss))
statements_found site d ss cs h =
    all_ok_all (statement_sorting site) ss cs (zip_weaker (IsStatementOf site) (λ s c. result_is c ≡ statement_sorting site s) (λ s c g. statement_complete site d s c g) ss cs h) ∙ sym (ap all_ok (sortings_listed site ss))

-- the names of no rules differ
nothing_differs : IsDistinct same_word []
unfolding IsDistinct
nothing_differs = tt

module _ (types : TypeTable) where
  declared_found : (d : SourceDeclared) (c : CheckedDeclared) → IsDeclaredOf types d c → result_is c ≡ declared_at types d
  unfolding declared_at
  declared_found d c h = rw (← sort_found types d.sort c.shape h.means h.low) (ap result_is (rebuilt d c h))
    where
      rebuilt : (d : SourceDeclared) (c : CheckedDeclared) → IsDeclaredOf types d c → c ≡ record { name = d.name; sort = d.sort; shape = c.shape }
      rebuilt d c h = λ i. record { name = (h.same i).name; sort = (h.same i).sort; shape = c.shape }

  all_declared_found : (ds : List SourceDeclared) (cs : List CheckedDeclared) → AllZip (IsDeclaredOf types) ds cs → results_are cs ≡ all_declared_at types ds
  all_declared_found ds cs h = all_ok_all (declared_at types) ds cs (zip_weaker (IsDeclaredOf types) (λ d c. result_is c ≡ declared_at types d) declared_found ds cs h)

  module _ (names : NameShapes) where
    abbrev typed_is : CheckedTerm → PlainShape → Result PlainTyped Refusal
    typed_is c s = Ok (typed c s)

    inferred_found : (t : SourceTerm) (c : CheckedTerm) (s : PlainShape) → IsOwnTermOf names t c s → typed_is c s ≡ infer_own names t
    unfolding own_or
    inferred_found t c s h = rw (← infer_complete names t c s h.term h.own) refl

    own_term_found : (t : SourceTerm) (c : CheckedTerm) → (s : PlainShape) × IsOwnTermOf names t c s → result_is c ≡ own_term names t
    own_term_found t c h = rw (← inferred_found t c h.0 h.1) refl

    condition_found : (o : Option SourceTerm) (c : Option CheckedTerm) → IsConditionOf names o c → result_is c ≡ condition_at names o
    unfolding condition_at
    condition_found None None h = refl
    condition_found None (Some c) h = absurd h
    condition_found (Some t) None h = absurd h
    condition_found (Some t) (Some c) h = rw (← fit_complete names t c truths h) refl

    where_found : (k : Kind) (o : Option SourceTerm) (c : Option CheckedTerm) → IsConditionOf names o c → is_some o && same_kind k Input ≡ false → result_is c ≡ where_at names k o
    unfolding where_at
    where_found k None None h n = refl
    where_found k None (Some c) h n = absurd h
    where_found k (Some t) None h n = absurd h
    where_found Input (Some t) (Some c) h n = absurd (cc)
    where_found Output (Some t) (Some c) h n = condition_found (Some t) (Some c) h
    where_found Internal (Some t) (Some c) h n = condition_found (Some t) (Some c) h

    initial_found : (s : PlainShape) (o : Option SourceTerm) (c : Option CheckedTerm) → IsInitialOf names s o c → (u : CheckedTerm) × (c ≡ Some u) × (result_is u ≡ initial_at names s o)
    unfolding initial_at
    initial_found s None None h = absurd h
    initial_found s None (Some c) h = absurd h
    initial_found s (Some t) None h = absurd h
    initial_found s (Some t) (Some c) h = (c, refl, fit_complete names t c (shape_in_terms s) h)

    variable_found : (v : SourceVariable) (c : CheckedVariable) → IsVariableOf types names v c → result_is c ≡ variable_at types names v
    unfolding variable_at
    variable_found v c h =
        let first = initial_found c.declared.shape v.initial c.initial h.initial in
        rw (← declared_found v.declared c.declared h.declared, ← first.2) (ap result_is (rebuilt c first.0 first.1))
      where
        rebuilt : (c : CheckedVariable) (u : CheckedTerm) → c.initial ≡ Some u → c ≡ record { declared = c.declared; initial = Some u }
        rebuilt c u e = λ i. record { declared = c.declared; initial = e i }

    variables_found : (vs : List SourceVariable) (cs : List CheckedVariable) → AllZip (IsVariableOf types names) vs cs → results_are cs ≡ variables_at types names vs
    variables_found vs cs h = all_ok_all (variable_at types names) vs cs (zip_weaker (IsVariableOf types names) (λ v c. result_is c ≡ variable_at types names v) variable_found vs cs h)

    parameter_found : (p : SourceParameter) (c : CheckedParameter) (s : PlainShape) → IsParameterOf types names p c s → result_is (sorted_parameter c s) ≡ parameter_at types names p
    unfolding parameter_at
    parameter_found (const t) (const c) s h = rw (← inferred_found t c s h) refl
    parameter_found (const t) (named c) s h = absurd h
    parameter_found (named d) (const c) s h = absurd h
    parameter_found (named d) (named c) s h = rw (← declared_found d c h.0) (ap (λ x. result_is (sorted_parameter (named c) x)) h.1)

    parameters_found : (ps : List SourceParameter) (cs : List CheckedParameter) (ss : List PlainShape) → AreParametersOf types names ps cs ss → result_is (sorted_parameters cs ss) ≡ parameters_at types names ps
    parameters_found [] [] [] h = refl
    parameters_found [] [] (s ∷ ss) h = absurd h
    parameters_found [] (c ∷ cs) ss h = absurd h
    parameters_found (p ∷ ps) [] ss h = absurd h
    parameters_found (p ∷ ps) (c ∷ cs) [] h = absurd h
    parameters_found (p ∷ ps) (c ∷ cs) (s ∷ ss) h = rw (← parameter_found p c s h.0, ← parameters_found ps cs ss h.1) refl

    transition_found : (variables : ℕ) (t : SourceTransition) (c : CheckedTransition) → IsTransitionOf types names variables t c → result_is c ≡ transition_at types names variables t
    unfolding transition_at
    transition_found variables t c h =
        rw (← all_ok_all (own_term names) t.arguments c.arguments (zip_weaker (λ u d. (s : PlainShape) × IsOwnTermOf names u d s) (λ u d. result_is d ≡ own_term names u) own_term_found t.arguments c.arguments h.arguments), ← condition_found t.pre c.pre h.pre, ← effect_found t.effect c.effect h.effect) (ap result_is (rebuilt t c h))
      where
        effect_found : (ss : List SourceStatement) (cs : List CheckedStatement) → AllZip (IsStatementOf (effect_site types (take variables names) names)) ss cs → results_are cs ≡ all_ok (statement_sortings (effect_site types (take variables names) names) (statements_of ss))
        effect_found ss cs h = statements_found (effect_site types (take variables names) names) nothing_differs ss cs h

        rebuilt : (t : SourceTransition) (c : CheckedTransition) → IsTransitionOf types names variables t c → c ≡ record { kind = t.kind; name = t.name; arguments = c.arguments; pre = c.pre; effect = c.effect }
        rebuilt t c h = λ i. record { kind = h.kind i; name = h.name i; arguments = c.arguments; pre = c.pre; effect = c.effect }

module _ (t : PlainTextTypes) (ps : List CheckedDeclared) (vs : List CheckedVariable) where
  abbrev given : NameShapes
  given = parameter_shapes ps

  abbrev outer : NameShapes
  outer = variable_shapes vs ++ parameter_shapes ps

  abbrev around : PlainSurroundings
  around = record { constants = t.constants; types = t.types; given = given; outer = outer; variables = length vs }

  abbrev entry_in : PlainRule → PlainSortedEntry
  entry_in r = record { entry = r.entry; shapes = r.shapes }

  condition_view : (own : List CheckedParameter) → names_at entry_condition t.constants ps vs own ≡ given ++ (own_shapes own ++ t.constants)
  condition_view own = append_assoc given (own_shapes own) t.constants

  guard_view : (own : List CheckedParameter) → names_at guard_or_effect t.constants ps vs own ≡ outer ++ (own_shapes own ++ t.constants)
  guard_view own = sym (step_view (variable_shapes vs) given (own_shapes own) t.constants)

  own_new : (e : SourceEntry) (ts : List SourceTransition) (r : PlainRule) → IsRuleOf t ps vs ts e r → result_is (own_shapes r.entry.parameters) ≡ own_names_or outer t.constants r.entry.parameters
  own_new e ts r h = own_found outer t.constants r.entry.parameters (subst AreDistinct (guard_view r.entry.parameters) h.step_names)

  entry_found : (ts : List SourceTransition) (e : SourceEntry) (r : PlainRule) → IsRuleOf t ps vs ts e r → result_is (entry_in r) ≡ entry_at (given ++ (own_shapes r.entry.parameters ++ t.constants)) e (sorted_parameters r.entry.parameters r.shapes)
  unfolding entry_at
  entry_found ts e r h =
      let names = given ++ (own_shapes r.entry.parameters ++ t.constants) in
      let condition : IsConditionOf names e.condition r.entry.condition = subst (λ ns. IsConditionOf ns e.condition r.entry.condition) (condition_view r.entry.parameters) h.condition in
      rw (← where_found t.types names e.kind e.condition r.entry.condition condition (lacks_input e.condition e.kind h.no_condition)) (ap result_is (rebuilt h))
    where
      rebuilt : IsRuleOf t ps vs ts e r → entry_in r ≡ record { entry = record { kind = e.kind; name = e.name; parameters = r.entry.parameters; condition = r.entry.condition }; shapes = r.shapes }
      rebuilt h = λ i. record { entry = record { kind = h.kind i; name = h.name i; parameters = r.entry.parameters; condition = r.entry.condition }; shapes = r.shapes }

  module _ (ts : List SourceTransition) (transitions_differ : IsDistinct same_word (map (λ u. u.name) ts)) where
    written_found : (e : SourceEntry) (r : PlainRule) (h : IsRuleOf t ps vs ts e r) → Some h.written ≡ transition_for e ts
    written_found e r h =
        present_found (λ (u : SourceTransition). u.name) (λ (u : SourceTransition). same_kind u.kind e.kind) e.name ts transitions_differ h.written h.present h.same_name ((kind_is h.written.kind e.kind).1 h.same_kind)

    allowed_found : (e : SourceEntry) (r : PlainRule) (h : IsRuleOf t ps vs ts e r) → result_is h.written ≡ transition_or e (transition_for e ts)
    unfolding transition_or
    allowed_found e r h = rw (← written_found e r h, (head_is e.parameters h.written.arguments).1 h.head, lacks_input h.written.pre e.kind h.no_guard) refl

    message_found : (x : PlainSortedEntry) → may_have_name x ≡ true → result_is x ≡ message_at x
    unfolding message_at
    message_found x h = rw h refl

    rule_found : (e : SourceEntry) (r : PlainRule) → IsRuleOf t ps vs ts e r → result_is r ≡ rule_at around ts e
    unfolding rule_at rule_of
    rule_found e r h =
        let own = r.entry.parameters in
        let names = outer ++ (own_shapes own ++ t.constants) in
        let transition = subst (λ ns. IsTransitionOf t.types ns (length vs) h.written r.transition) (guard_view own) h.transition in
        rw (← allowed_found e r h, ← parameters_found t.types (given ++ t.constants) e.parameters own r.shapes h.parameters, ← own_new e ts r h, ← entry_found ts e r h, ← message_found (entry_in r) ((named_iff (entry_in r)).1 h.message), ← transition_found t.types names (length vs) h.written r.transition transition) (ap result_is (rebuilt h))
      where
        rebuilt : IsRuleOf t ps vs ts e r → r ≡ record { entry = r.entry; shapes = r.shapes; transition = r.transition; own = own_names r.entry.parameters }
        rebuilt h = λ i. record { entry = r.entry; shapes = r.shapes; transition = r.transition; own = h.own i }

    rules_found : (es : List SourceEntry) (rs : List PlainRule) → AllZip (IsRuleOf t ps vs ts) es rs → results_are rs ≡ rules_at around ts es
    rules_found es rs h = all_ok_all (rule_at around ts) es rs (zip_weaker (IsRuleOf t ps vs ts) (λ e r. result_is r ≡ rule_at around ts e) rule_found es rs h)

abbrev nothing : Result (Unit {0}) Refusal
nothing = Ok tt

differ_found : (ws : List (List ℕ)) → IsDistinct same_word ws → result_is ws ≡ names_or ws
differ_found ws d = rw (differ_new ws d) refl

entries_found : (es : List SourceEntry) (ts : List SourceTransition) → IsDistinct same_word (map (λ e. e.name) es) → AllByRecursion (HasItsEntry es) ts → nothing ≡ have_entries es ts
entries_found es ts d h = rw (all_have ts h) refl
  where
    entry_found : (u : SourceTransition) → HasItsEntry es u → has_entry es u ≡ true
    entry_found u x =
        rw (← present_found (λ (e : SourceEntry). e.name) (λ (e : SourceEntry). same_kind e.kind u.kind) u.name es d x.entry x.present x.same_name ((kind_is x.entry.kind u.kind).1 x.same_kind)) refl

    all_have : (us : List SourceTransition) → AllByRecursion (HasItsEntry es) us → list_all (has_entry es) us ≡ true
    all_have [] h = refl
    all_have (u ∷ us) h = rw (entry_found u h.0, all_have us h.1) refl

-- the names of entries are those of the text
pub rule_words : (t : PlainTextTypes) (ps : List CheckedDeclared) (vs : List CheckedVariable) (ts : List SourceTransition) (es : List SourceEntry) (rs : List PlainRule) → AllZip (IsRuleOf t ps vs ts) es rs → map (λ e. e.name) es ≡ map (λ r. r.entry.name) rs
rule_words t ps vs ts [] [] h = refl
rule_words t ps vs ts [] (r ∷ rs) h = absurd h
rule_words t ps vs ts (e ∷ es) [] h = absurd h
rule_words t ps vs ts (e ∷ es) (r ∷ rs) h = λ i. sym h.0.name i ∷ rule_words t ps vs ts es rs h.1 i

module _ (t : PlainTextTypes) (a : SourceAutomaton) (c : AutomatonParts) (h : IsAutomatonOf t a c) where
  abbrev heading : PlainHeading
  heading = record {
    parameters = c.parameters;
    variables = c.variables;
    given = parameter_shapes c.parameters;
    outer = variable_shapes c.variables ++ parameter_shapes c.parameters;
  }

  heading_found : result_is heading ≡ heading_at t a
  unfolding heading_at
  heading_found =
      rw (← all_declared_found t.types a.parameters c.parameters h.parameters, ← given_found t.constants c.parameters h.given_names, ← variables_found t.types (parameter_shapes c.parameters ++ t.constants) a.states c.variables h.variables, ← outer_found t.constants c.parameters c.variables h.names) refl

  actions_found : results_are c.rules ≡ actions_at (surroundings t heading) a
  unfolding actions_at
  actions_found =
      rw (← differ_found (map (λ e. e.name) a.signature) h.entries_differ, ← differ_found (map (λ u. u.name) a.transitions) h.transitions_differ, ← entries_found a.signature a.transitions h.entries_differ h.entries) (rules_found t c.parameters c.variables a.transitions h.transitions_differ a.signature c.rules h.rules)

  rules_differ : IsDistinct same_word (map (λ r. r.entry.name) c.rules)
  rules_differ = subst (IsDistinct same_word) (rule_words t c.parameters c.variables a.transitions a.signature c.rules h.rules) h.entries_differ

  schedule_found : result_is c.schedule ≡ schedule_at (surroundings t heading) c.rules a.schedule
  unfolding schedule_at
  schedule_found =
      let outer = variable_shapes c.variables ++ parameter_shapes c.parameters in
      let own = c.schedule.variables in
      let first = block_own_shapes own c.rules in
      let names = subst AreDistinct (append_assoc first outer t.constants) h.schedule.names in
      let site = site_same (surroundings t heading) c.parameters c.variables own first c.rules refl refl refl in
      let found = subst (λ (x : PlainStatementSite). results_are c.schedule.statements ≡ all_ok (statement_sortings x (statements_of a.schedule.statements))) (sym site)
      (statements_found (block_of (block_names t.constants c.parameters c.variables own c.rules) c.variables own c.rules) rules_differ a.schedule.statements c.schedule.statements h.schedule.statements) in
      rw (← variables_found t.types (parameter_shapes c.parameters ++ t.constants) a.schedule.variables own h.schedule.variables, ← block_found outer t.constants own c.rules names, ← found) refl

  pub automaton_found : result_is c ≡ automaton_at t a
  automaton_found =
      rw (← heading_found, ← actions_found, ← schedule_found) (ap result_is rebuilt)
    where
      rebuilt : c ≡ record { name = a.name; constants = words t.constants; parameters = c.parameters; variables = c.variables; rules = c.rules; schedule = c.schedule }
      rebuilt = λ i. record { name = h.name i; constants = h.constants i; parameters = c.parameters; variables = c.variables; rules = c.rules; schedule = c.schedule }
