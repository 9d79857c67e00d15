-- The values that an accepted system's effects choose are simple: each has the shape of its choice, which is that of
-- truth values, of numbers, or of an enumeration of the text.
use Rattle.std.proofs.Common.{◌≡◌, ◌<◌, ◌≤◌, ◌+◌, ℕ, Bool, true, false, nat_le, nat_lt, List, [], ◌∷◌, ◌++◌, Option, Some, None, IfOk, Result, Ok, Err, refl, sym, ap, subst, ◌∙◌, map, take, length, arith, if◌then◌else◌}
use Rattle.std.specs.List.{AllByRecursion, AllZip}
use Rattle.std.specs.Option.{option_and_then}
use Rattle.std.proofs.lemmas.Bool.{and_parts, ltb-true}
use Rattle.std.proofs.lemmas.List.{length-append, length-map}
use Rattle.ioa_values.specs.Data.{Data, number, truth, constant}
use Rattle.ioa_values.proofs.AllOf.{all_appended}
use Rattle.ioa_values.specs.Outcome.{and_then}
use Rattle.ioa_operators.specs.Shapes.{PlainShape, truths, integers, naturals, constants, tuples, sequences, sets, maps, has_shape, with_field}
use Rattle.ioa_operators.specs.declared.shape.Shape.{Shape}
use Rattle.ioa_terms.specs.declared.callee.Callee.{Callee}
use Rattle.ioa_terms.specs.declared.name.Name.{Name}
use Rattle.ioa_terms.specs.declared.name.Name.TheVariants.{Word}
use Rattle.ioa_terms.specs.Bindings.{Bindings, lookup, put, same_name}
use Rattle.ioa_terms.specs.Choices.{Source, given, yielded, Left, left, Chosen, chosen, Lack, no_value, no_choice, or_no_value}
use Rattle.ioa_terms.specs.Meaning.{value}
use Rattle.ioa_terms.specs.Performance.{assigned, fitting_value, test_value, updated_map, value_chosen, permitted, with_chosen, taken, put_chosen, after_choose, after_assign, after_one, after_choice, after_all, after}
use Rattle.ioa_terms.specs.PlainSort as sort
use Rattle.ioa_terms.specs.PlainSort.{PlainSort}
use Rattle.ioa_terms.specs.PlainTerm.{PlainTarget, variable, at_key, at_field, PlainChoice, PlainStatement, PlainStatements, PlainArms, assign, branch, loop, fire, choosing, no_statements, statement, no_arms, arm, statements_of}
use Rattle.ioa_terms.specs.Sorted.{NameShapes, shape_named}
use Rattle.ioa_terms.proofs.Statements.{in_any_case, ok_then}
use Rattle.ioa_source.specs.PlainText.{type_named, automaton, enumeration, tuple_of}
use Rattle.ioa_source.specs.Sides.{SourceDeclaration, SourceForm, SourceStatement, SourceText, SourceType, CheckedStatement}
use Rattle.ioa_system.specs.InView.{guard_or_effect}
use Rattle.ioa_system.specs.Systems.{SystemParts}
use Rattle.ioa_names.specs.NameTables.{declared_names, words}
use Rattle.ioa_names.specs.Views.{AreWords}
use Rattle.ioa_types.specs.Meanings.{Means}
use Rattle.ioa_types.specs.TextTypes.{PlainTextTypes, no_types}
use Rattle.ioa_types.specs.TypeDeclarations.{IsShapeOf, constants_of, DeclaresType}
use Rattle.ioa_types.specs.TypeTables.{TypeTable}
use Rattle.ioa_sorts.specs.SimpleShapes.{IsSimple}
use Rattle.ioa_sorts.specs.SortedStatements.{IsSorted, AreSorted, AreArmsSorted, IsStatementOf}
use Rattle.ioa_sorts.specs.StatementSites.{PlainStatementSite, effect_site}
use Rattle.ioa_automata.specs.SortedAutomata.{names_at}
use Rattle.ioa_sections.specs.Meant.{AreTypesOf}
use Rattle.ioa_check.specs.Systems.{IsSystemOf}
use Rattle.ioa_check.proofs.Declared.{declared_once}
use Rattle.ioa_transitions.specs.Entries.{PlainEntry}
use Rattle.ioa_transitions.specs.NodeStep.{rule_bindings}
use Rattle.ioa_compose.specs.Automata.{IsExecution}
use Rattle.ioa_compose.specs.Executions.{replay}
use Rattle.ioa_compose.specs.JointStep.{IsJointStep}
use Rattle.ioa_compose.specs.Start.{start}
use Rattle.ioa_compose.specs.Steps.{IsStep}
use Rattle.ioa_compose.specs.declared.configuration.Conf.{Conf}
use Rattle.ioa_compose.proofs.Projections.{replays}
use Rattle.ioa_compose.proofs.Starts.{start_state}
use Rattle.ioa_run_laws.specs.SimpleValues.{IsSimpleValue, AreSimpleValues}
use Rattle.ioa_run_laws.proofs.Accepted.{is_accepted, system_constants}
use Rattle.ioa_run_laws.proofs.Effects.{after_test, all_sorted}
use Rattle.ioa_run_laws.proofs.NodeSteps.{is_rule}
use Rattle.ioa_run_laws.proofs.Runs.{IsOwnStep, run_steps}

-- the constants of a shape, if it is that of an enumeration, are among so many
abbrev AreAmong : ℕ → PlainShape → Type 0
AreAmong many truths = Unit {0}
AreAmong many integers = Unit {0}
AreAmong many naturals = Unit {0}
AreAmong many (constants w from count) = from + count ≤ many
AreAmong many (tuples w names ss) = Unit {0}
AreAmong many (sequences s) = Unit {0}
AreAmong many (sets s) = Unit {0}
AreAmong many (maps k v) = Unit {0}

-- the same of types
abbrev AreTypesAmong : ℕ → TypeTable → Type 0
AreTypesAmong many types = AllByRecursion (λ n. AreAmong many n.1) types

-- there may be more
within : (m n from count : ℕ) → m ≤ n → from + count ≤ m → from + count ≤ n
within m n from count more h = omega (arith, more, h)

among_more : (m n : ℕ) → m ≤ n → (s : PlainShape) → AreAmong m s → AreAmong n s
among_more m n more truths h = tt
among_more m n more integers h = tt
among_more m n more naturals h = tt
among_more m n more (constants w from count) h = within m n from count more h
among_more m n more (tuples w names ss) h = tt
among_more m n more (sequences s) h = tt
among_more m n more (sets s) h = tt
among_more m n more (maps k v) h = tt

types_more : (m n : ℕ) → m ≤ n → (types : TypeTable) → AreTypesAmong m types → AreTypesAmong n types
types_more m n more [] h = tt
types_more m n more (t ∷ types) h = (among_more m n more t.1 h.0, types_more m n more types h.1)

-- the constants of one more type
sum_kept : (before words count : ℕ) → count ≡ words → before + words ≤ before + count
sum_kept before words count same = omega (arith, same)

form_among : (t : PlainTextTypes) (w : List ℕ) (f : SourceForm) (s : PlainShape) → IsShapeOf t w f s → AreAmong (length t.constants + length (constants_of f s)) s
form_among t w (enumeration ws) s h =
    subst (AreAmong (length t.constants + length (constants_of (enumeration ws) s))) (sym h)
    (sum_kept (length t.constants) (length ws) (length (constants_of (enumeration ws) s)) (length-map ws (λ (v : List ℕ). (Word v, s))))
form_among t w (tuple_of fs) s h = subst (AreAmong (length t.constants + length (constants_of (tuple_of fs) s))) (sym h.same) tt

part_less : (m n whole : ℕ) → whole ≡ m + n → m ≤ whole
part_less m n whole same = omega (arith, same)

type_among : (t u : PlainTextTypes) (d : SourceType) → AreTypesAmong (length t.constants) t.types → DeclaresType t d u → AreTypesAmong (length u.constants) u.types
type_among t u d all h =
    subst (AreTypesAmong (length u.constants)) (sym h.types)
    (all_appended (λ (n : Name × PlainShape). AreAmong (length u.constants) n.1) t.types ((Word d.name, h.shape) ∷ [])
    (types_more (length t.constants) (length u.constants) (part_less (length t.constants) (length (constants_of d.form h.shape)) (length u.constants) count) t.types all)
    (subst (λ (many : ℕ). AreAmong many h.shape) (sym count) (form_among t d.name d.form h.shape h.form), tt))
  where
    count : length u.constants ≡ length t.constants + length (constants_of d.form h.shape)
    count = ap length h.constants ∙ length-append t.constants (constants_of d.form h.shape)

types_among : (ds : List SourceDeclaration) (t u : PlainTextTypes) → AreTypesAmong (length t.constants) t.types → AreTypesOf ds t u → AreTypesAmong (length u.constants) u.types
types_among [] t u all h = subst (λ (v : PlainTextTypes). AreTypesAmong (length v.constants) v.types) (sym h) all
types_among (type_named d ∷ more) t u all h = types_among more h.0 u (type_among t h.0 d all h.1) h.2
types_among (automaton a ∷ more) t u all h = types_among more t u all h

-- as many constants as names of constants
as_many : (listed named worded many : ℕ) → named ≡ listed → named ≡ worded → worded ≡ many → listed ≡ many
as_many listed named worded many first same last = omega (arith, first, same, last)

constants_counted : (ns : NameShapes) → AreWords ns → length ns ≡ length (words ns)
constants_counted ns h =
    as_many (length ns) (length (declared_names ns)) (length (map Word (words ns))) (length (words ns))
    (length-map ns (λ (n : Name × PlainShape). n.0)) (ap length h) (length-map (words ns) Word)

system_among : (x : SourceText) (s : SystemParts) (h : IsSystemOf x s) → AreTypesAmong (length s.names) h.types.types
system_among x s h =
    subst (λ (ws : List (List ℕ)). AreTypesAmong (length ws) h.types.types) (sym h.names)
    (subst (λ (many : ℕ). AreTypesAmong many h.types.types) (constants_counted h.types.constants (system_constants x s h).named)
    (types_among x.declarations no_types h.types tt h.declared))

-- a value of a simple shape that a sort means
module _ (many : ℕ) where
  named_among : (types : TypeTable) (x : Name) (s : PlainShape) → AreTypesAmong many types → shape_named x types ≡ Some s → AreAmong many s
  named_among [] x s all h = absurd (cc)
  named_among (t ∷ types) x s all h = by_same (same_name x t.0) h (named_among types x s all.1)
    where
      by_same : (b : Bool) → (if b then Some t.1 else shape_named x types) ≡ Some s → (shape_named x types ≡ Some s → AreAmong many s) → AreAmong many s
      by_same true e further = let same : t.1 ≡ s = cc in subst (AreAmong many) same all.0
      by_same false e further = further e

  meant_among : (types : TypeTable) → AreTypesAmong many types → (z : PlainSort) (s : PlainShape) → Means types z s → AreAmong many s
  meant_among types all sort.booleans s h = subst (AreAmong many) (sym h) tt
  meant_among types all sort.integers s h = subst (AreAmong many) (sym h) tt
  meant_among types all sort.naturals s h = subst (AreAmong many) (sym h) tt
  meant_among types all (sort.sequences z) s h = subst (AreAmong many) (sym h.2) tt
  meant_among types all (sort.sets z) s h = subst (AreAmong many) (sym h.2) tt
  meant_among types all (sort.maps k v) s h = subst (AreAmong many) (sym h.4) tt
  meant_among types all (sort.named_type w) s h = named_among types (Word w) s all h

  below : (from count k : ℕ) → k < from + count → from + count ≤ many → k < many
  below from count k low h = omega (arith, low, h)

  simple_value : (s : PlainShape) (v : Data) → IsSimple s → AreAmong many s → has_shape s v ≡ true → IsSimpleValue many v
  simple_value truths (truth b) simple h g = tt
  simple_value truths _ simple h g = absurd (cc)
  simple_value integers (number z) simple h g = tt
  simple_value integers _ simple h g = absurd (cc)
  simple_value naturals (number z) simple h g = tt
  simple_value naturals _ simple h g = absurd (cc)
  simple_value (constants w from count) (constant k) simple h g =
      below from count k (ltb-true k (from + count) (and_parts (nat_le from k) (nat_lt k (from + count)) g).1) h
  simple_value (constants w from count) _ simple h g = absurd (cc)
  simple_value (tuples w names ss) v simple h g = absurd simple
  simple_value (sequences s) v simple h g = absurd simple
  simple_value (sets s) v simple h g = absurd simple
  simple_value (maps k u) v simple h g = absurd simple

  -- the values that are left to take are simple; of those that are yielded nothing is said
  abbrev IsSimpleSource : Source → Type 0
  IsSimpleSource (given vs) = AreSimpleValues many vs
  IsSimpleSource (yielded vs) = Unit {0}

  -- so are all that were there, if those are that a choice leaves
  abbrev TakesSimple : Source → Source → Type 0
  TakesSimple c d = IsSimpleSource d → IsSimpleSource c

  abbrev LeavesSimple : Source → Left → Type 0
  LeavesSimple c m = TakesSimple c m.source

  abbrev ChoosesSimple : Source → Chosen → Type 0
  ChoosesSimple c v = TakesSimple c v.source

  chosen_simply : (s : PlainShape) (o : Option Data) (c : Source) → ((v : Data) → has_shape s v ≡ true → IsSimpleValue many v) → IfOk (value_chosen s o c) (ChoosesSimple c)
  chosen_simply s o (given []) simple = tt
  chosen_simply s o (given (v ∷ vs)) simple = by_shape (has_shape s v) refl
    where
      by_shape : (b : Bool) → has_shape s v ≡ b → IfOk (if b then Ok (chosen v (given vs)) else Err no_choice) (ChoosesSimple (given (v ∷ vs)))
      by_shape true e = λ rest. (simple v e, rest)
      by_shape false e = tt
  chosen_simply s o (yielded vs) simple =
      ok_then (λ v. Unit {0}) (ChoosesSimple (yielded vs)) (or_no_value (option_and_then (fitting_value s) o)) (λ v. Ok (chosen v (yielded (vs ++ v ∷ []))))
      (in_any_case (or_no_value (option_and_then (fitting_value s) o))) (λ v h rest. tt)

  taken_simply : (c : PlainChoice ℕ Callee Shape) (l : Left) → ((v : Data) → has_shape c.shape v ≡ true → IsSimpleValue many v) → IfOk (taken c l) (ChoosesSimple l.source)
  taken_simply c l simple =
      ok_then (ChoosesSimple l.source) (ChoosesSimple l.source) (value_chosen c.shape (value c.yields l.bindings) l.source)
      (λ v. and_then (permitted (test_value c.condition (with_chosen c.name v.value l.bindings))) (λ _. Ok v))
      (chosen_simply c.shape (value c.yields l.bindings) l.source simple)
      (λ v h. ok_then (λ u. Unit {0}) (ChoosesSimple l.source) (permitted (test_value c.condition (with_chosen c.name v.value l.bindings))) (λ _. Ok v)
      (in_any_case (permitted (test_value c.condition (with_chosen c.name v.value l.bindings)))) (λ u k. h))

  put_simply : (b : Source) (x : Name) (s : PlainShape) (e : Bindings) (c : Source) (o : Option Data) → TakesSimple b c → IfOk (put_chosen x s e c o) (LeavesSimple b)
  put_simply b x s e c o h =
      ok_then (λ w. Unit {0}) (LeavesSimple b) (or_no_value (option_and_then (fitting_value s) o)) (λ w. Ok (left (put x w e) c))
      (in_any_case (or_no_value (option_and_then (fitting_value s) o))) (λ w k. h)

  choose_simply : (b : Source) (p : PlainTarget ℕ Callee Shape) (r : Result Chosen Lack) (e : Bindings) → IfOk r (ChoosesSimple b) → IfOk (after_choose p r e) (LeavesSimple b)
  choose_simply b (variable x at d) r e h =
      ok_then (ChoosesSimple b) (LeavesSimple b) r (λ c. put_chosen (Word x) d e c.source (Some c.value)) h (λ c k. put_simply b (Word x) d e c.source (Some c.value) k)
  choose_simply b (at_key x at d u) r e h =
      ok_then (λ i. Unit {0}) (LeavesSimple b) (or_no_value (value u e)) (λ i. and_then r (λ c. put_chosen (Word x) d e c.source (option_and_then (updated_map i c.value) (lookup (Word x) e))))
      (in_any_case (or_no_value (value u e)))
      (λ i k. ok_then (ChoosesSimple b) (LeavesSimple b) r (λ c. put_chosen (Word x) d e c.source (option_and_then (updated_map i c.value) (lookup (Word x) e))) h
      (λ c g. put_simply b (Word x) d e c.source (option_and_then (updated_map i c.value) (lookup (Word x) e)) g))
  choose_simply b (at_field x at d f) r e h =
      ok_then (ChoosesSimple b) (LeavesSimple b) r (λ c. put_chosen (Word x) d e c.source (option_and_then (with_field d f c.value) (lookup (Word x) e))) h
      (λ c k. put_simply b (Word x) d e c.source (option_and_then (with_field d f c.value) (lookup (Word x) e)) k)

  assign_simply : (o : Option Bindings) (c : Source) → IfOk (after_assign o c) (LeavesSimple c)
  assign_simply None c = tt
  assign_simply (Some e) c = λ rest. rest

  -- what more statements leave
  further_simply : (b c : Source) → TakesSimple b c → (r : Result Left Lack) → IfOk r (LeavesSimple c) → IfOk r (LeavesSimple b)
  further_simply b c h (Err l) k = tt
  further_simply b c h (Ok m) k = λ rest. h (k rest)

  -- sorted statements
  module _ (site : PlainStatementSite) (all : AreTypesAmong many site.types) where
    mutual
      statement_simply : (s : PlainStatement ℕ Callee Shape) (l : Left) → IsSorted site s → IfOk (after_one s l) (LeavesSimple l.source)
      statement_simply (assign p t) l h = assign_simply (assigned p t l.bindings) l.source
      statement_simply (branch arms rest) l h = arms_simply arms (after_all rest l) l h.0 (statements_simply rest l h.1)
      statement_simply (loop t body) l h = tt
      statement_simply (fire f) l h = tt
      statement_simply (choosing c) l h =
          choose_simply l.source c.target (taken c l) l.bindings
          (taken_simply c l (λ v k. simple_value c.shape v h.simple (meant_among site.types all c.sort c.shape h.means) k))

      arms_simply : (arms : PlainArms ℕ Callee Shape) (rest : Result Left Lack) (l : Left) → AreArmsSorted site arms → IfOk rest (LeavesSimple l.source) → IfOk (after_choice arms rest l) (LeavesSimple l.source)
      arms_simply no_arms rest l h k = k
      arms_simply (arm t body more) rest l h k =
          after_test (λ (r : Result Left Lack). IfOk r (LeavesSimple l.source)) (test_value t l.bindings) (Err no_value) (after_all body l) (after_choice more rest l)
          tt (statements_simply body l h.1) (arms_simply more rest l h.2 k)

      statements_simply : (ss : PlainStatements ℕ Callee Shape) (l : Left) → AreSorted site ss → IfOk (after_all ss l) (LeavesSimple l.source)
      statements_simply no_statements l h = λ rest. rest
      statements_simply (statement s more) l h =
          ok_then (LeavesSimple l.source) (LeavesSimple l.source) (after_one s l) (after_all more) (statement_simply s l h.0)
          (λ m k. further_simply l.source m.source k (after_all more m) (statements_simply more m h.1))

    effect_simply : (us : List SourceStatement) (ss : List CheckedStatement) (l m : Left) → AllZip (IsStatementOf site) us ss → after ss l ≡ Ok m → LeavesSimple l.source m
    effect_simply us ss l m h k = rw k at (statements_simply (statements_of ss) l (all_sorted site us ss h))

-- so an entry that is a step of its node, as each of a run is, has such values
pub chosen_simple : (x : SourceText) (s : SystemParts) → IsSystemOf x s → (en : PlainEntry) → IsOwnStep s en → AreSimpleValues (length s.names) en.chosen
chosen_simple x s h en own =
    let p = own.old.program in
    let rule = own.step.rule in
    let made = is_rule h.types p (is_accepted x s h p own.shaped.program) rule own.step.mine.present in
    let names = names_at guard_or_effect h.types.constants p.automaton.parameters p.automaton.variables rule.entry.parameters in
    effect_simply (length s.names) (effect_site h.types.types (take (length p.automaton.variables) names) names) (system_among x s h)
    made.1.written.effect rule.transition.effect (left (rule_bindings guard_or_effect rule en.action own.old) (given en.chosen)) (left own.step.reached (given [])) made.1.transition.effect own.step.effect tt

-- and so has each of a run
pub run_chosen : (x : SourceText) (s : SystemParts) (entries : List PlainEntry) (cs : List Conf) → IsSystemOf x s → IsExecution (IsJointStep IsStep) (start s) entries cs → AllByRecursion (λ e. AreSimpleValues (length s.names) e.chosen) entries
run_chosen x s entries cs h e = all_chosen entries (run_steps x s entries cs h e)
  where
    all_chosen : (es : List PlainEntry) → AllByRecursion (IsOwnStep s) es → AllByRecursion (λ (en : PlainEntry). AreSimpleValues (length s.names) en.chosen) es
    all_chosen [] own = tt
    all_chosen (en ∷ es) own = (chosen_simple x s h en own.0, all_chosen es own.1)

pub replay_chosen : (x : SourceText) (s : SystemParts) (entries : List PlainEntry) (cs : List Conf) → IsSystemOf x s → replay entries (start s) ≡ Some cs → AllByRecursion (λ e. AreSimpleValues (length s.names) e.chosen) entries
replay_chosen x s entries cs h e = run_chosen x s entries cs h (replays entries (start s) cs (start_state s (declared_once x s h)) e)
