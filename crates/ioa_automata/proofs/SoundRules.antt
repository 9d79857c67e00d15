-- What is made of an automaton.
use Rattle.std.proofs.Common.{◌≡◌, ◌&&◌, ℕ, zero, suc, Bool, true, false, List, [], ◌∷◌, ◌++◌, Option, Some, None, Err, refl, sym, ap, subst, ◌∙◌, map, length, take, if◌then◌else◌}
use Rattle.std.specs.List.{AllByRecursion, AllZip, IsDistinct, list_all, slice_get}
use Rattle.std.specs.Option.{IfSome, is_some, option_and_then}
use Rattle.std.proofs.lemmas.List.{append_assoc}
use lib.Pointwise.{pointwise}
use Rattle.ioa_values.specs.Outcome.{and_then}
use Rattle.ioa_values.proofs.AllOf.{all_appended}
use Rattle.ioa_operators.specs.Shapes.{PlainShape}
use Rattle.ioa_terms.specs.declared.tree.Kind.TheVariants.{Input}
use Rattle.ioa_terms.proofs.SameTerms.{kind_is}
use Rattle.ioa_actions.specs.ActionParts.{receive_name}
use Rattle.ioa_terms.specs.Bindings.{same_word}
use Rattle.ioa_terms.specs.SameTerms.{same_kind}
use Rattle.ioa_terms.specs.Sorted.{NameShapes}
use Rattle.ioa_source.specs.PlainText.{const, named}
use Rattle.ioa_source.specs.Sides.{SourceDeclared, SourceParameter, SourceEntry, SourceVariable, SourceTransition, SourceSchedule, SourceAutomaton, CheckedDeclared, CheckedParameter, CheckedVariable, CheckedSchedule}
use Rattle.ioa_system.specs.InView.{entry_condition, guard_or_effect}
use Rattle.ioa_system.specs.Parts.{AutomatonParts, PlainRule, rule_named, message_shape}
use Rattle.ioa_sort_rules.specs.DeclaredTypes.{IsDeclared, AreAllDeclared}
use Rattle.ioa_refusals.specs.declared.refusal.Refusal.TheVariants.{Unknown, InputPre, BadArgument}
use Rattle.ioa_types.specs.Meanings.{tuple_types, AreTextTypes}
use Rattle.ioa_names.specs.NameTables.{AreDistinct, new_or, with_names}
use Rattle.ioa_types.specs.TextTypes.{PlainTextTypes}
use Rattle.ioa_names.proofs.Names.{all_behind, all_differ, new_differ_between, second_differ}
use Rattle.ioa_automata.specs.NamesInView.{parameter_shapes, variable_shapes, own_shapes, given_names_or, outer_names_or, own_names_or, inbox_shapes_of, inbox_shapes, block_own_shapes, block_names_or}
use Rattle.ioa_automata.specs.Parts.{PlainSortedEntry, sorted_entry, parameters_at, where_at, entry_at, transition_at, all_declared_at, variables_at}
use Rattle.ioa_automata.specs.Rules.{repeats, transition_for, transition_or, may_have_name, message_at, sorted_rule, PlainSurroundings, rule_of, rule_at, rules_at, names_or, entry_for, has_entry, have_entries}
use Rattle.ioa_automata.specs.Automata.{PlainBody, PlainHeading, heading_at, surroundings, actions_at, body_at, sorted_automaton, automaton_at}
use Rattle.ioa_automata.specs.SortedAutomata.{IsDeclaredOf, IsVariableOf, IsConditionOf, AreParametersOf, IsTransitionOf, IsRuleOf, IsScheduleOf, block_names, block_of, HasItsEntry, IsAutomatonOf, names_at}
use Rattle.ioa_automata.proofs.Loops.{results_are}
use Rattle.ioa_sorts.proofs.Lookups.{found_has, found_is}
use Rattle.ioa_sorts.specs.StatementSites.{PlainStatementSite}
use Rattle.ioa_sorts.specs.Statements.{all_ok, statement_sortings}
use Rattle.ioa_terms.specs.PlainTerm.{statements_of}
use Rattle.ioa_automata.specs.Schedules.{site_in, sorted_schedule, schedule_at}
use Rattle.ioa_automata.proofs.BlockNames.{names_swapped, site_same}
use Rattle.ioa_automata.proofs.Results.{result_is, first_of, all_ok_each, zip_weaker}
use Rattle.ioa_automata.proofs.RuleNames.{message_same, names_are}
use Rattle.ioa_automata.proofs.Heads.{head_is, input_lacks, named_iff}
use Rattle.ioa_automata.proofs.Sound.{all_declared_sound, variables_sound, parameters_sound, where_sound, transition_sound, statements_sound}

-- names in view: which they are, and that they differ
pub record AreNames (n names : NameShapes) : Type 0 where
  pub same : n ≡ names
  pub differ : AreDistinct n

first_names : (names n : NameShapes) → with_names [] names ≡ result_is n → AreNames n names
unfolding IsDistinct
first_names names n h = record { same = all_behind [] names n h; differ = all_differ [] names n nothing h }
  where
    nothing : AreDistinct []
    nothing = tt

more_names : (names more n m : NameShapes) → AreNames n names → with_names n more ≡ result_is m → AreNames m (names ++ more)
more_names names more n m a h = record { same = all_behind n more m h ∙ ap (λ ns. ns ++ more) a.same; differ = all_differ n more m a.differ h }

-- names that are put between those outside and the constants, which differ
record AreBetween (outer constants n names : NameShapes) : Type 0 where
  same : n ≡ names
  differ : AreDistinct (outer ++ (names ++ constants))

between_names : (outer constants names m n : NameShapes) → AreNames m names → new_or outer constants m ≡ result_is n → AreDistinct (outer ++ constants) → AreBetween outer constants n names
between_names outer constants names m n a h d =
    let b = new_differ_between outer constants m n h d a.differ in
    record { same = sym b.0 ∙ a.same; differ = subst (λ ns. AreDistinct (outer ++ (ns ++ constants))) a.same b.1 }

given_sound : (constants : NameShapes) → AreDistinct constants → (ps : List CheckedDeclared) (n : NameShapes) → given_names_or constants ps ≡ result_is n → AreBetween [] constants n (parameter_shapes ps)
given_sound constants d ps n h =
    let one = first_of (with_names [] (parameter_shapes ps)) (new_or [] constants) n h in
    between_names [] constants (parameter_shapes ps) one.0 n (first_names (parameter_shapes ps) one.0 one.1) one.2 d

outer_sound : (constants : NameShapes) → AreDistinct constants → (ps : List CheckedDeclared) (vs : List CheckedVariable) (n : NameShapes) → outer_names_or constants ps vs ≡ result_is n → AreBetween [] constants n (variable_shapes vs ++ parameter_shapes ps)
outer_sound constants d ps vs n h =
    let one = first_of (and_then (with_names [] (variable_shapes vs)) (λ m. with_names m (parameter_shapes ps))) (new_or [] constants) n h in
    let two = first_of (with_names [] (variable_shapes vs)) (λ m. with_names m (parameter_shapes ps)) one.0 one.1 in
    let names = more_names (variable_shapes vs) (parameter_shapes ps) two.0 one.0 (first_names (variable_shapes vs) two.0 two.1) two.2 in
    between_names [] constants (variable_shapes vs ++ parameter_shapes ps) one.0 n names one.2 d

own_sound : (outer constants : NameShapes) → AreDistinct (outer ++ constants) → (own : List CheckedParameter) (n : NameShapes) → own_names_or outer constants own ≡ result_is n → AreBetween outer constants n (own_shapes own)
own_sound outer constants d own n h =
    let one = first_of (with_names [] (own_shapes own)) (new_or outer constants) n h in
    between_names outer constants (own_shapes own) one.0 n (first_names (own_shapes own) one.0 one.1) one.2 d

-- what the terms of an entry read, in the order of the slots
pub step_view : (vs ps own constants : NameShapes) → (vs ++ ps) ++ (own ++ constants) ≡ (vs ++ (ps ++ own)) ++ constants
step_view vs ps own constants =
    append_assoc vs ps (own ++ constants) ∙ ap (λ ns. vs ++ ns) (sym (append_assoc ps own constants)) ∙ sym (append_assoc vs (ps ++ own) constants)

-- what is transition_or
record IsAllowed (e : SourceEntry) (o : Option SourceTransition) (t : SourceTransition) : Type 0 where
  found : o ≡ Some t
  head : pointwise repeats e.parameters t.arguments ≡ true
  no_guard : is_some t.pre && same_kind e.kind Input ≡ false

allowed_sound : (e : SourceEntry) (o : Option SourceTransition) (t : SourceTransition) → transition_or e o ≡ result_is t → IsAllowed e o t
unfolding transition_or
allowed_sound e None t h = absurd (cc)
allowed_sound e (Some u) t h = by_head (pointwise repeats e.parameters u.arguments) refl h
  where
    by_guard : pointwise repeats e.parameters u.arguments ≡ true → (b : Bool) → is_some u.pre && same_kind e.kind Input ≡ b → (if b then Err InputPre else result_is u) ≡ result_is t → IsAllowed e (Some u) t
    by_guard p true g h = absurd (cc)
    by_guard p false g h = let same : u ≡ t = cc in subst (IsAllowed e (Some u)) same (record { found = refl; head = p; no_guard = g })

    by_head : (b : Bool) → pointwise repeats e.parameters u.arguments ≡ b → (if b then (if is_some u.pre && same_kind e.kind Input then Err InputPre else result_is u) else Err BadArgument) ≡ result_is t → IsAllowed e (Some u) t
    by_head true p h = by_guard p (is_some u.pre && same_kind e.kind Input) refl h
    by_head false p h = absurd (cc)

all_taken : {A : Type 0} (P : A → Type 0) (k : ℕ) (xs : List A) → AllByRecursion P xs → AllByRecursion P (take k xs)
all_taken P zero xs h = tt
all_taken P (suc k) [] h = tt
all_taken P (suc k) (x ∷ xs) h = (h.0, all_taken P k xs h.1)

-- what all shapes of rules have, that of the messages has
message_has : (P : PlainShape → Type 0) (rs : List PlainRule) → AllByRecursion (λ r. AllByRecursion P r.shapes) rs → IfSome (message_shape rs) P
message_has P rs h = by_rule (rule_named receive_name rs) refl
  where
    first : (ss : List PlainShape) → AllByRecursion P ss → IfSome (slice_get ss 0) P
    first [] k = tt
    first (s ∷ ss) k = k.0

    by_rule : (o : Option PlainRule) → rule_named receive_name rs ≡ o → IfSome (option_and_then (λ r. slice_get r.shapes 0) o) P
    by_rule None e = tt
    by_rule (Some r) e = first r.shapes (found_has (λ q. AllByRecursion P q.shapes) (λ q. same_word q.entry.name receive_name) rs r h e)

module _ (t : PlainTextTypes) (text : AreTextTypes t) where
  abbrev IsKept : PlainShape → Type 0
  IsKept s = IsDeclared (tuple_types t.types) s

  abbrev AreKept : NameShapes → Type 0
  AreKept names = AreAllDeclared (tuple_types t.types) names

  parameters_kept : (ds : List SourceDeclared) (cs : List CheckedDeclared) → AllZip (λ d c. IsDeclaredOf t.types d c × IsDeclared (tuple_types t.types) c.shape) ds cs → AreKept (parameter_shapes cs) × AllZip (IsDeclaredOf t.types) ds cs
  parameters_kept [] [] h = (tt, tt)
  parameters_kept [] (c ∷ cs) h = absurd h
  parameters_kept (d ∷ ds) [] h = absurd h
  parameters_kept (d ∷ ds) (c ∷ cs) h = let rest = parameters_kept ds cs h.1 in ((h.0.1, rest.0), (h.0.0, rest.1))

  variables_kept : (names : NameShapes) (us : List SourceVariable) (cs : List CheckedVariable) → AllZip (λ v c. IsVariableOf t.types names v c × IsDeclared (tuple_types t.types) c.declared.shape) us cs → AreKept (variable_shapes cs) × AllZip (IsVariableOf t.types names) us cs
  variables_kept names [] [] h = (tt, tt)
  variables_kept names [] (c ∷ cs) h = absurd h
  variables_kept names (u ∷ us) [] h = absurd h
  variables_kept names (u ∷ us) (c ∷ cs) h = let rest = variables_kept names us cs h.1 in ((h.0.1, rest.0), (h.0.0, rest.1))

  own_kept : (names : NameShapes) (ps : List SourceParameter) (cs : List CheckedParameter) (ss : List PlainShape) → AreParametersOf t.types names ps cs ss → AllByRecursion IsKept ss → AreKept (own_shapes cs)
  own_kept names [] [] ss h k = tt
  own_kept names [] (c ∷ cs) ss h k = absurd h
  own_kept names (p ∷ ps) [] ss h k = tt
  own_kept names (p ∷ ps) (c ∷ cs) [] h k = absurd h
  own_kept names (const u ∷ ps) (const c ∷ cs) (s ∷ ss) h k = own_kept names ps cs ss h.1 k.1
  own_kept names (const u ∷ ps) (named c ∷ cs) (s ∷ ss) h k = absurd h.0
  own_kept names (named d ∷ ps) (const c ∷ cs) (s ∷ ss) h k = absurd h.0
  own_kept names (named d ∷ ps) (named c ∷ cs) (s ∷ ss) h k = (subst IsKept h.0.1 k.0, own_kept names ps cs ss h.1 k.1)

  -- what the entries of an automaton of these parameters and state variables read
  abbrev pub around : List CheckedDeclared → List CheckedVariable → PlainSurroundings
  around ps vs = record {
    constants = t.constants;
    types = t.types;
    given = parameter_shapes ps;
    outer = variable_shapes vs ++ parameter_shapes ps;
    variables = length vs;
  }

  module _ (ps : List CheckedDeclared) (vs : List CheckedVariable) (kept : AreKept (parameter_shapes ps)) (valued : AreKept (variable_shapes vs)) (differ : AreDistinct ((variable_shapes vs ++ parameter_shapes ps) ++ t.constants)) where
    abbrev given : NameShapes
    given = parameter_shapes ps

    abbrev variables : NameShapes
    variables = variable_shapes vs

    given_kept : AreKept (given ++ t.constants)
    given_kept = all_appended (λ n. IsKept n.1) given t.constants kept text.constants

    -- the names that an entry declares itself
    record IsOwn (own : List CheckedParameter) (n : NameShapes) : Type 0 where
      condition : given ++ (n ++ t.constants) ≡ names_at entry_condition t.constants ps vs own
      step : (variables ++ given) ++ (n ++ t.constants) ≡ names_at guard_or_effect t.constants ps vs own
      condition_names : AreDistinct (names_at entry_condition t.constants ps vs own)
      step_names : AreDistinct (names_at guard_or_effect t.constants ps vs own)
      condition_kept : AreKept (given ++ (n ++ t.constants))
      step_kept : AreKept ((variables ++ given) ++ (n ++ t.constants))

    own_is : (own : List CheckedParameter) (n : NameShapes) → own_names_or (variables ++ given) t.constants own ≡ result_is n → AreKept (own_shapes own) → IsOwn own n
    own_is own n h k =
        let b = own_sound (variables ++ given) t.constants differ own n h in
        let shapes = own_shapes own in
        let behind : AreDistinct (given ++ (shapes ++ t.constants)) =
        second_differ variables (given ++ (shapes ++ t.constants)) (subst AreDistinct (append_assoc variables given (shapes ++ t.constants)) b.differ) in
        let tail : AreKept (n ++ t.constants) = all_appended (λ m. IsKept m.1) n t.constants (subst AreKept (sym b.same) k) text.constants in
        record {
          condition = ap (λ ns. given ++ (ns ++ t.constants)) b.same ∙ sym (append_assoc given shapes t.constants);
          step = ap (λ ns. (variables ++ given) ++ (ns ++ t.constants)) b.same ∙ step_view variables given shapes t.constants;
          condition_names = subst AreDistinct (sym (append_assoc given shapes t.constants)) behind;
          step_names = subst AreDistinct (step_view variables given shapes t.constants) b.differ;
          condition_kept = all_appended (λ m. IsKept m.1) given (n ++ t.constants) kept tail;
          step_kept = all_appended (λ m. IsKept m.1) (variables ++ given) (n ++ t.constants) (all_appended (λ m. IsKept m.1) variables given valued kept) tail;
        }

    -- an entry with its transition
    abbrev IsWhole : List SourceTransition → SourceEntry → PlainRule → Type 0
    IsWhole ts e r = IsRuleOf t ps vs ts e r × AllByRecursion IsKept r.shapes

    rule_sound : (ts : List SourceTransition) (e : SourceEntry) (r : PlainRule) → rule_at (around ps vs) ts e ≡ result_is r → IsWhole ts e r
    unfolding rule_at rule_of entry_at
    rule_sound ts e r h =
        let s = around ps vs in
        let one = first_of (transition_or e (transition_for e ts)) (λ u. and_then (parameters_at t.types (given ++ t.constants) e.parameters) (λ qs. and_then (own_names_or s.outer t.constants qs.parameters) (λ own. and_then (entry_at (given ++ (own ++ t.constants)) e qs) (λ x. and_then (message_at x) (rule_of s own u))))) r h in
        let written = one.0 in
        let two = first_of (parameters_at t.types (given ++ t.constants) e.parameters) (λ qs. and_then (own_names_or s.outer t.constants qs.parameters) (λ own. and_then (entry_at (given ++ (own ++ t.constants)) e qs) (λ x. and_then (message_at x) (rule_of s own written)))) r one.2 in
        let qs = two.0 in
        let three = first_of (own_names_or s.outer t.constants qs.parameters) (λ own. and_then (entry_at (given ++ (own ++ t.constants)) e qs) (λ x. and_then (message_at x) (rule_of s own written))) r two.2 in
        let n = three.0 in
        let four = first_of (entry_at (given ++ (n ++ t.constants)) e qs) (λ x. and_then (message_at x) (rule_of s n written)) r three.2 in
        let five = first_of (message_at four.0) (rule_of s n written) r four.2 in
        let x = five.0 in
        let six = first_of (transition_at t.types (s.outer ++ (n ++ t.constants)) (length vs) written) (λ u. result_is (sorted_rule x u)) r five.2 in
        let made : sorted_rule x six.0 ≡ r = cc in
        let seven = first_of (where_at (given ++ (n ++ t.constants)) e.kind e.condition) (λ c. result_is (sorted_entry e qs c)) four.0 four.1 in
        let named_well = message_same four.0 x five.1 in
        let entry : sorted_entry e qs seven.0 ≡ four.0 = cc in
        let whole : sorted_entry e qs seven.0 ≡ x = entry ∙ named_well.0 in
        let found = parameters_sound t.types text.types (given ++ t.constants) given_kept e.parameters qs two.1 in
        let own = own_is qs.parameters n three.1 (own_kept (given ++ t.constants) e.parameters qs.parameters qs.shapes found.0 found.1) in
        let condition = where_sound t.types text.types (given ++ (n ++ t.constants)) own.condition_kept e.kind e.condition seven.0 seven.1 in
        let right = allowed_sound e (transition_for e ts) written one.1 in
        let is = found_is (λ (u : SourceTransition). u.name) (λ (u : SourceTransition). same_kind u.kind e.kind) e.name ts written right.found in
        let sound = transition_sound t.types text.types (s.outer ++ (n ++ t.constants)) own.step_kept (length vs) (all_taken (λ m. IsKept m.1) (length vs) (s.outer ++ (n ++ t.constants)) own.step_kept) written six.0 six.1 in
        subst (IsWhole ts e) made (subst (λ (y : PlainSortedEntry). IsWhole ts e (sorted_rule y six.0)) whole (
          record {
            kind = refl;
            name = refl;
            parameters = found.0;
            condition = subst (λ ns. IsConditionOf ns e.condition seven.0) own.condition condition.0;
            written = written;
            present = is.0;
            same_kind = (kind_is written.kind e.kind).0 is.2;
            same_name = is.1;
            transition = subst (λ ns. IsTransitionOf t.types ns (length vs) written six.0) own.step sound;
            own = refl;
            condition_names = own.condition_names;
            step_names = own.step_names;
            head = (head_is e.parameters written.arguments).0 right.head;
            no_guard = input_lacks written.pre e.kind right.no_guard;
            no_condition = input_lacks e.condition e.kind condition.1;
            message = (named_iff (sorted_entry e qs seven.0)).0 (subst (λ y. may_have_name y ≡ true) (sym entry) named_well.1);
          },
          found.1,
        ))

    rules_kept : (ts : List SourceTransition) (es : List SourceEntry) (rs : List PlainRule) → AllZip (IsWhole ts) es rs → AllByRecursion (λ r. AllByRecursion IsKept r.shapes) rs × AllZip (IsRuleOf t ps vs ts) es rs
    rules_kept ts [] [] h = (tt, tt)
    rules_kept ts [] (r ∷ rs) h = absurd h
    rules_kept ts (e ∷ es) [] h = absurd h
    rules_kept ts (e ∷ es) (r ∷ rs) h = let rest = rules_kept ts es rs h.1 in ((h.0.1, rest.0), (h.0.0, rest.1))

    pub rules_sound : (ts : List SourceTransition) (es : List SourceEntry) (rs : List PlainRule) → rules_at (around ps vs) ts es ≡ results_are rs → AllByRecursion (λ r. AllByRecursion (IsDeclared (tuple_types t.types)) r.shapes) rs × AllZip (IsRuleOf t ps vs ts) es rs
    rules_sound ts es rs h =
        rules_kept ts es rs (zip_weaker (λ e r. rule_at (around ps vs) ts e ≡ result_is r) (IsWhole ts) (rule_sound ts) es rs (all_ok_each (rule_at (around ps vs) ts) es rs h))

  -- the tests of an automaton's actions
  entry_is : (es : List SourceEntry) (u : SourceTransition) → has_entry es u ≡ true → HasItsEntry es u
  entry_is es u h = by_found (entry_for u es) refl h
    where
      by_found : (o : Option SourceEntry) → entry_for u es ≡ o → is_some o ≡ true → HasItsEntry es u
      by_found None e h = absurd (cc)
      by_found (Some x) e h =
          let is = found_is (λ (y : SourceEntry). y.name) (λ (y : SourceEntry). same_kind y.kind u.kind) u.name es x e in
          record { entry = x; present = is.0; same_kind = (kind_is x.kind u.kind).0 is.2; same_name = is.1 }

  entries_are : (es : List SourceEntry) (ts : List SourceTransition) → list_all (has_entry es) ts ≡ true → AllByRecursion (HasItsEntry es) ts
  entries_are es [] h = tt
  entries_are es (u ∷ ts) h = by_first (has_entry es u) refl h (entries_are es ts)
    where
      by_first : (b : Bool) → has_entry es u ≡ b → b && list_all (has_entry es) ts ≡ true → (list_all (has_entry es) ts ≡ true → AllByRecursion (HasItsEntry es) ts) → AllByRecursion (HasItsEntry es) (u ∷ ts)
      by_first true e h more = (entry_is es u e, more h)
      by_first false e h more = absurd (cc)

  entries_sound : (es : List SourceEntry) (ts : List SourceTransition) (x : Unit {0}) → have_entries es ts ≡ result_is x → AllByRecursion (HasItsEntry es) ts
  entries_sound es ts x h = by_test (list_all (has_entry es) ts) refl h
    where
      by_test : (b : Bool) → list_all (has_entry es) ts ≡ b → (if b then result_is tt else Err Unknown) ≡ result_is x → AllByRecursion (HasItsEntry es) ts
      by_test true e h = entries_are es ts e
      by_test false e h = absurd (cc)

  -- the parameters and the state variables of an automaton
  record IsHeadingOf (a : SourceAutomaton) (h : PlainHeading) : Type 0 where
    given : AreBetween [] t.constants h.given (parameter_shapes h.parameters)
    outer : AreBetween [] t.constants h.outer (variable_shapes h.variables ++ parameter_shapes h.parameters)
    parameters : AllZip (IsDeclaredOf t.types) a.parameters h.parameters
    variables : AllZip (IsVariableOf t.types (parameter_shapes h.parameters ++ t.constants)) a.states h.variables
    kept : AreKept (parameter_shapes h.parameters)
    valued : AreKept (variable_shapes h.variables)

  heading_sound : (a : SourceAutomaton) (c : PlainHeading) → heading_at t a ≡ result_is c → IsHeadingOf a c
  unfolding heading_at
  heading_sound a c h =
      let one = first_of (all_declared_at t.types a.parameters) (λ ps. and_then (given_names_or t.constants ps) (λ n. and_then (variables_at t.types (n ++ t.constants) a.states) (λ vs. and_then (outer_names_or t.constants ps vs) (λ m. result_is (record { parameters = ps; variables = vs; given = n; outer = m }))))) c h in
      let two = first_of (given_names_or t.constants one.0) (λ n. and_then (variables_at t.types (n ++ t.constants) a.states) (λ vs. and_then (outer_names_or t.constants one.0 vs) (λ m. result_is (record { parameters = one.0; variables = vs; given = n; outer = m })))) c one.2 in
      let three = first_of (variables_at t.types (two.0 ++ t.constants) a.states) (λ vs. and_then (outer_names_or t.constants one.0 vs) (λ m. result_is (record { parameters = one.0; variables = vs; given = two.0; outer = m }))) c two.2 in
      let four = first_of (outer_names_or t.constants one.0 three.0) (λ m. result_is (record { parameters = one.0; variables = three.0; given = two.0; outer = m })) c three.2 in
      let made : PlainHeading = record { parameters = one.0; variables = three.0; given = two.0; outer = four.0 } in
      let same : made ≡ c = cc in
      let declared = parameters_kept a.parameters one.0 (all_declared_sound t.types text.types a.parameters one.0 one.1) in
      let given = given_sound t.constants text.differ one.0 two.0 two.1 in
      let view : two.0 ++ t.constants ≡ parameter_shapes one.0 ++ t.constants = ap (λ ns. ns ++ t.constants) given.same in
      let all = subst AreKept (sym view) (all_appended (λ n. IsKept n.1) (parameter_shapes one.0) t.constants declared.0 text.constants) in
      let states = variables_kept (two.0 ++ t.constants) a.states three.0 (variables_sound t.types text.types (two.0 ++ t.constants) all a.states three.0 three.1) in
      subst (IsHeadingOf a) same (record {
        given = given;
        outer = outer_sound t.constants text.differ one.0 three.0 four.0 four.1;
        parameters = declared.1;
        variables = subst (λ ns. AllZip (IsVariableOf t.types ns) a.states three.0) view states.1;
        kept = declared.0;
        valued = states.0;
      })

  pub heading_outer : (a : SourceAutomaton) (h : PlainHeading) → heading_at t a ≡ result_is h → h.outer ≡ variable_shapes h.variables ++ parameter_shapes h.parameters
  heading_outer a h e = (heading_sound a h e).outer.same

  abbrev body_is : List PlainRule → CheckedSchedule → PlainBody
  body_is rs b = record { rules = rs; schedule = b }

  -- the tuple types in the shape of the inboxes are declared, if those of the rules are
  inboxes_kept : (o : Option PlainShape) → IfSome o IsKept → AreKept (inbox_shapes_of o)
  inboxes_kept None k = tt
  inboxes_kept (Some s) k = ((tt, k), tt)

  -- the schedule block
  schedule_sound : (ps : List CheckedDeclared) (vs : List CheckedVariable) → AreKept (parameter_shapes ps) → AreKept (variable_shapes vs) → AreDistinct ((variable_shapes vs ++ parameter_shapes ps) ++ t.constants) →
      (rs : List PlainRule) → AllByRecursion (λ r. AllByRecursion IsKept r.shapes) rs → (b : SourceSchedule) (c : CheckedSchedule) → schedule_at (around ps vs) rs b ≡ result_is c → IsScheduleOf t ps vs rs b c
  unfolding schedule_at
  schedule_sound ps vs kept valued differ rs rules b c h =
      let given = parameter_shapes ps ++ t.constants in
      let outer = variable_shapes vs ++ parameter_shapes ps in
      let s = around ps vs in
      let one = first_of (variables_at t.types given b.variables) (λ ws. and_then (block_names_or outer t.constants ws rs) (λ n. and_then (all_ok (statement_sortings (site_in s n (length ws) rs) (statements_of b.statements))) (λ ss. result_is (sorted_schedule ws ss)))) c h in
      let two = first_of (block_names_or outer t.constants one.0 rs) (λ n. and_then (all_ok (statement_sortings (site_in s n (length one.0) rs) (statements_of b.statements))) (λ ss. result_is (sorted_schedule one.0 ss))) c one.2 in
      let three = first_of (all_ok (statement_sortings (site_in s two.0 (length one.0) rs) (statements_of b.statements))) (λ ss. result_is (sorted_schedule one.0 ss)) c two.2 in
      let made : sorted_schedule one.0 three.0 ≡ c = cc in
      let all_given = all_appended (λ n. IsKept n.1) (parameter_shapes ps) t.constants kept text.constants in
      let variables = variables_kept given b.variables one.0 (variables_sound t.types text.types given all_given b.variables one.0 one.1) in
      let inboxes = inbox_shapes rs in
      let own = block_own_shapes one.0 rs in
      let first = first_of (and_then (with_names [] (variable_shapes one.0)) (λ n. with_names n inboxes)) (new_or outer t.constants) two.0 two.1 in
      let before = first_of (with_names [] (variable_shapes one.0)) (λ n. with_names n inboxes) first.0 first.1 in
      let both = more_names (variable_shapes one.0) inboxes before.0 first.0 (first_names (variable_shapes one.0) before.0 before.1) before.2 in
      let between = between_names outer t.constants own first.0 two.0 both first.2 differ in
      let names = block_names t.constants ps vs one.0 rs in
      let all_own = all_appended (λ n. IsKept n.1) (variable_shapes one.0) inboxes variables.0 (inboxes_kept (message_shape rs) (message_has IsKept rs rules)) in
      let view : own ++ (outer ++ t.constants) ≡ names = sym (append_assoc own outer t.constants) in
      let all_outer = all_appended (λ n. IsKept n.1) (variable_shapes vs) (parameter_shapes ps) valued kept in
      let all = subst AreKept view (all_appended (λ n. IsKept n.1) own (outer ++ t.constants) all_own (all_appended (λ n. IsKept n.1) outer t.constants all_outer text.constants)) in
      let site = site_same s ps vs one.0 two.0 rs refl refl between.same in
      let found = subst (λ (x : PlainStatementSite). all_ok (statement_sortings x (statements_of b.statements)) ≡ results_are three.0) site three.1 in
      subst (IsScheduleOf t ps vs rs b) made (record {
        variables = variables.1;
        names = subst AreDistinct view (names_swapped outer own t.constants between.differ);
        statements = statements_sound (tuple_types t.types) (block_of names vs one.0 rs) (record { variables = all_taken (λ n. IsKept n.1) (length one.0) names all; names = all; rules = rules }) b.statements three.0 found;
      })

  result_same : (x y : AutomatonParts) → result_is x ≡ result_is y → x ≡ y
  result_same x y h = cc

  pub automaton_sound : (a : SourceAutomaton) (c : AutomatonParts) → automaton_at t a ≡ result_is c → IsAutomatonOf t a c
  unfolding actions_at
  automaton_sound a c h =
      let one = first_of (heading_at t a) (λ g. and_then (body_at (surroundings t g) a) (λ b. result_is (sorted_automaton t a.name g b))) c h in
      let g = one.0 in
      let body = first_of (body_at (surroundings t g) a) (λ b. result_is (sorted_automaton t a.name g b)) c one.2 in
      let two = first_of (actions_at (surroundings t g) a) (λ rs. and_then (schedule_at (surroundings t g) rs a.schedule) (λ b. result_is (body_is rs b))) body.0 body.1 in
      let rs = two.0 in
      let three = first_of (schedule_at (surroundings t g) rs a.schedule) (λ b. result_is (body_is rs b)) body.0 two.2 in
      let block = three.0 in
      let whole : body_is rs block ≡ body.0 = cc in
      let made : sorted_automaton t a.name g (body_is rs block) ≡ c = ap (sorted_automaton t a.name g) whole ∙ (result_same (sorted_automaton t a.name g body.0) c body.2) in
      let four = first_of (names_or (map (λ e. e.name) a.signature)) (λ x. and_then (names_or (map (λ u. u.name) a.transitions)) (λ y. and_then (have_entries a.signature a.transitions) (λ z. rules_at (surroundings t g) a.transitions a.signature))) rs two.1 in
      let five = first_of (names_or (map (λ u. u.name) a.transitions)) (λ y. and_then (have_entries a.signature a.transitions) (λ z. rules_at (surroundings t g) a.transitions a.signature)) rs four.2 in
      let six = first_of (have_entries a.signature a.transitions) (λ z. rules_at (surroundings t g) a.transitions a.signature) rs five.2 in
      let heading = heading_sound a g one.1 in
      let outer = variable_shapes g.variables ++ parameter_shapes g.parameters in
      let same : surroundings t g ≡ around g.parameters g.variables =
      λ i. record { constants = t.constants; types = t.types; given = heading.given.same i; outer = heading.outer.same i; variables = length g.variables } in
      let rules = rules_sound g.parameters g.variables heading.kept heading.valued heading.outer.differ a.transitions a.signature rs (subst (λ (s : PlainSurroundings). rules_at s a.transitions a.signature ≡ results_are rs) same six.2) in
      subst (IsAutomatonOf t a) made (record {
        name = refl;
        constants = refl;
        parameters = heading.parameters;
        variables = heading.variables;
        rules = rules.1;
        schedule = schedule_sound g.parameters g.variables heading.kept heading.valued heading.outer.differ rs rules.0 a.schedule block (subst (λ (s : PlainSurroundings). schedule_at s rs a.schedule ≡ result_is block) same three.1);
        given_names = heading.given.differ;
        names = heading.outer.differ;
        entries_differ = (names_are (map (λ e. e.name) a.signature) four.0 four.1).1;
        transitions_differ = (names_are (map (λ u. u.name) a.transitions) five.0 five.1).1;
        entries = entries_sound a.signature a.transitions six.0 six.1;
      })
