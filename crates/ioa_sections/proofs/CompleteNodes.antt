-- The program of each node that has one is found.
use Rattle.std.proofs.Common.{◌≡◌, ℕ, ◌+◌, ℤ, pos, List, [], ◌∷◌, Result, Ok, refl, subst, map, length}
use Rattle.std.specs.List.{AllByRecursion, AllZip}
use Rattle.std.specs.Prelude.{find}
use Rattle.ioa_values.specs.Data.{Data}
use Rattle.ioa_operators.specs.Shapes.{PlainShape}
use Rattle.ioa_terms.specs.Bindings.{Bindings}
use Rattle.ioa_terms.specs.Sorted.{NameShapes, shape_in_terms}
use Rattle.ioa_source.specs.PlainText.{const, named}
use Rattle.ioa_source.specs.Sides.{SourceNode, SourceTerm, CheckedParameter, CheckedTerm, CheckedVariable}
use Rattle.ioa_system.specs.InView.{given_bindings}
use Rattle.ioa_system.specs.Parts.{AutomatonParts, Parts, PlainRule}
use Rattle.ioa_refusals.specs.declared.refusal.Refusal.{Refusal}
use Rattle.ioa_sorts.specs.Statements.{all_ok}
use Rattle.ioa_sorts.proofs.Complete.{fit_complete}
use Rattle.ioa_sorts.specs.Firings.{arguments_at}
use Rattle.ioa_sorts.specs.SortedTerms.{AreArgumentsOf}
use Rattle.ioa_automata.proofs.Results.{result_is, zip_weaker}
use Rattle.ioa_sections.specs.Nodes.{has_number, automaton_or, value_or, fitting_or, value_for, constant_bindings, argument_values, given_at, initial_value, variable_value, variable_values, constant_at, constants_at, home_at, entry_on, entries_on, start_values, program_of, parameter_shapes, program_with, program_at, programs_from}
use Rattle.ioa_sections.specs.Meant.{IsValueFor, AreValuesFor, IsInitialValue, HasValue, IsEntryOn, IsProgramOf, IsNodeOf, AreNodesOf}
use Rattle.ioa_sections.proofs.Tests.{home_back}

-- a test that passes
abbrev pub passes : Result (Unit {0}) Refusal
passes = Ok tt

-- results that are all there
pub all_are : {A B : Type 0} (f : A → Result B Refusal) (xs : List A) (ys : List B) → AllZip (λ x y. result_is y ≡ f x) xs ys → result_is ys ≡ all_ok (map f xs)
all_are f [] [] h = refl
all_are f [] (y ∷ ys) h = absurd h
all_are f (x ∷ xs) [] h = absurd h
all_are f (x ∷ xs) (y ∷ ys) h = rw (← h.0, ← all_are f xs ys h.1) refl

-- the terms that a node gives
terms_found : (names : NameShapes) (ss : List PlainShape) (us : List SourceTerm) (cs : List CheckedTerm) → AreArgumentsOf names ss us cs → result_is cs ≡ arguments_at names ss us
terms_found names [] [] [] h = refl
terms_found names [] [] (c ∷ cs) h = absurd h
terms_found names [] (u ∷ us) cs h = absurd h
terms_found names (s ∷ ss) [] cs h = absurd h
terms_found names (s ∷ ss) (u ∷ us) [] h = absurd h
terms_found names (s ∷ ss) (u ∷ us) (c ∷ cs) h = rw (← fit_complete names u c (shape_in_terms s) h.0, ← terms_found names ss us cs h.1) refl

-- values
value_found : (e : Bindings) (s : PlainShape) (t : CheckedTerm) (v : Data) → IsValueFor e s t v → result_is v ≡ value_for e s t
unfolding value_or fitting_or
value_found e s t v h = rw (h.value, h.shape) refl

values_found : (e : Bindings) (ss : List PlainShape) (ts : List CheckedTerm) (vs : List Data) → AreValuesFor e ss ts vs → result_is vs ≡ argument_values e ss ts
values_found e [] [] [] h = refl
values_found e [] [] (v ∷ vs) h = absurd h
values_found e [] (t ∷ ts) vs h = absurd h
values_found e (s ∷ ss) [] vs h = absurd h
values_found e (s ∷ ss) (t ∷ ts) [] h = absurd h
values_found e (s ∷ ss) (t ∷ ts) (v ∷ vs) h = rw (← value_found e s t v h.0, ← values_found e ss ts vs h.1) refl

pub given_found : (names : NameShapes) (ss : List PlainShape) (us : List SourceTerm) (cs : List CheckedTerm) (vs : List Data) → AreArgumentsOf names ss us cs → AreValuesFor (constant_bindings names) ss cs vs → result_is vs ≡ given_at names ss us
unfolding given_at
given_found names ss us cs vs sorted given = rw (← terms_found names ss us cs sorted) (values_found (constant_bindings names) ss cs vs given)

module _ (e : Bindings) where
  initial_found : (v : CheckedVariable) (d : Data) → IsInitialValue e v d → result_is d ≡ variable_value e v
  unfolding initial_value
  initial_found v d h = rw h.1 (value_found e v.declared.shape h.0 d h.2)

  initials_found : (vs : List CheckedVariable) (ds : List Data) → AllZip (IsInitialValue e) vs ds → result_is ds ≡ variable_values e vs
  initials_found vs ds h = all_are (variable_value e) vs ds (zip_weaker (IsInitialValue e) (λ v d. result_is d ≡ variable_value e v) initial_found vs ds h)

  -- entries
  constant_found : (p : CheckedParameter) → HasValue e p → passes ≡ constant_at e p
  unfolding constant_at value_or
  constant_found (const t) h = rw h.1 refl
  constant_found (named d) h = refl

  constants_found : (ps : List CheckedParameter) → AllByRecursion (HasValue e) ps → passes ≡ constants_at e ps
  constants_found [] h = refl
  constants_found (p ∷ ps) h = rw (← constant_found p h.0) (constants_found ps h.1)

  module _ (k : ℤ) where
    home_found : (r : PlainRule) → IsEntryOn e k r → passes ≡ home_at e k r
    unfolding home_at
    home_found r h = rw (home_back e k r h) refl

    entry_found : (r : PlainRule) → IsEntryOn e k r → passes ≡ entry_on e k r
    entry_found r h = rw (← constants_found r.entry.parameters h.constants) (home_found r h)

    entries_found : (rs : List PlainRule) → AllByRecursion (IsEntryOn e k) rs → passes ≡ entries_on e k rs
    entries_found [] h = refl
    entries_found (r ∷ rs) h = rw (← entry_found r h.0) (entries_found rs h.1)

-- a program
module _ (names : NameShapes) where
  start_found : (us : List SourceTerm) (p : Parts) → IsProgramOf names us p → result_is p.initial ≡ start_values p.node p.automaton p.arguments
  unfolding start_values
  start_found us p h =
      let e = given_bindings p.automaton p.arguments in
      rw (← entries_found e p.node p.automaton.rules h.entries) (initials_found e p.automaton.variables p.initial h.initial)

  made_found : (us : List SourceTerm) (p : Parts) → IsProgramOf names us p → result_is p ≡ program_of p.node p.automaton p.arguments
  unfolding program_of
  made_found us p h =
      rw (← start_found us p h, ← initials_found (given_bindings p.automaton p.arguments) p.automaton.schedule.variables p.block h.block) refl

  program_found : (us : List SourceTerm) (p : Parts) → IsProgramOf names us p → result_is p ≡ program_with names p.node us p.automaton
  unfolding program_with
  program_found us p h =
      rw (← given_found names (parameter_shapes p.automaton) us h.arguments p.arguments h.sorted h.given) (made_found us p h)

  -- the program of a node
  module _ (automata : List AutomatonParts) (ns : List SourceNode) where
    node_found : (k : ℕ) (p : Parts) → IsNodeOf names automata ns k p → result_is p ≡ program_at names automata (pos k) (find (has_number (pos k)) ns)
    unfolding program_at automaton_or
    node_found k p h =
        let made = subst (λ (i : ℤ). result_is p ≡ program_with names i h.node.arguments p.automaton) h.number (program_found h.node.arguments p h.program) in
        rw (h.declared, h.automaton) made

    pub nodes_found : (k : ℕ) (ps : List Parts) → AreNodesOf names automata ns k ps → result_is ps ≡ programs_from names automata ns k (length ps)
    nodes_found k [] h = refl
    nodes_found k (p ∷ ps) h = rw (← node_found k p h.0, ← nodes_found (k + 1) ps h.1) refl
