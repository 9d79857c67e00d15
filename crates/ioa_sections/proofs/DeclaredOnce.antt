-- The nodes and the scripts that a text describes are of different numbers, and each program declares each thing once.
use Rattle.std.proofs.Common.{◌≡◌, ℕ, ℤ, ◌+◌, ◌<◌, pos, Bool, true, false, ◌||◌, List, [], ◌∷◌, ◌++◌, Some, find, if◌then◌else◌, refl, sym, subst, map, length, arith}
use Rattle.std.specs.List.{AllByRecursion, AllZip, IsDistinct, list_any}
use Rattle.std.specs.Ordering.{int_eq}
use Rattle.ioa_values.specs.Data.{Data}
use Rattle.ioa_terms.specs.Bindings.{Bindings, same_name, same_word}
use Rattle.ioa_terms.specs.declared.name.Name.{Name}
use Rattle.ioa_terms.specs.declared.name.Name.TheVariants.{Word}
use Rattle.ioa_terms.specs.Sorted.{NameShapes}
use Rattle.ioa_source.specs.Sides.{SourceAutomaton, SourceNode, SourceScript}
use Rattle.ioa_source.specs.Sides.{CheckedVariable}
use Rattle.ioa_system.specs.Declarations.{DeclaresOnce, has_node}
use Rattle.ioa_system.specs.InView.{given_bindings, variable_names}
use Rattle.ioa_system.specs.Parts.{AutomatonParts, Parts}
use Rattle.ioa_system.specs.Systems.{ScriptParts}
use Rattle.ioa_names.proofs.Names.{first_differ}
use Rattle.ioa_names.proofs.Words.{names_of_each}
use Rattle.ioa_types.specs.TextTypes.{PlainTextTypes}
use Rattle.ioa_sorts.proofs.Lookups.{found_has}
use Rattle.ioa_automata.specs.NamesInView.{parameter_shapes, variable_shapes}
use Rattle.ioa_automata.specs.SortedAutomata.{IsAutomatonOf}
use Rattle.ioa_automata.proofs.Complete.{rule_words}
use Rattle.ioa_sections.specs.Scripts.{same_node}
use Rattle.ioa_sections.specs.Meant.{AreNodesOf, IsInitialValue, IsNodeOf, IsScriptOf}
use Rattle.ioa_sections.proofs.Tests.{numbers_apart}

-- the nodes from a number on have other numbers than one below it
others_apart : (names : NameShapes) (automata : List AutomatonParts) (ns : List SourceNode) (m k : ℕ) → m < k → (ps : List Parts) → AreNodesOf names automata ns k ps → AllByRecursion (λ y. int_eq (pos m) y ≡ false) (map (λ p. p.node) ps)
others_apart names automata ns m k less [] nodes = tt
others_apart names automata ns m k less (p ∷ more) nodes =
    (subst (λ (i : ℤ). int_eq (pos m) i ≡ false) (sym nodes.0.number) (numbers_apart (pos m) (pos k) other), others_apart names automata ns m (k + 1) (omega (arith, less)) more nodes.1)
  where
    other : pos m ≡ pos k → ⊥
    other e = let same : m ≡ k = cc in omega (arith, less, same)

-- the numbers of nodes differ
pub nodes_differ : (names : NameShapes) (automata : List AutomatonParts) (ns : List SourceNode) (k : ℕ) (ps : List Parts) → AreNodesOf names automata ns k ps → IsDistinct int_eq (map (λ p. p.node) ps)
unfolding IsDistinct
nodes_differ names automata ns k [] nodes = tt
nodes_differ names automata ns k (p ∷ more) nodes =
    (subst (λ (i : ℤ). AllByRecursion (λ y. int_eq i y ≡ false) (map (λ (q : Parts). q.node) more)) (sym nodes.0.number) (others_apart names automata ns k (k + 1) (omega arith) more nodes.1), nodes_differ names automata ns (k + 1) more nodes.1)

-- as many values as variables
as_many : (e : Bindings) (vs : List CheckedVariable) (ds : List Data) → AllZip (IsInitialValue e) vs ds → length ds ≡ length vs
as_many e [] [] h = refl
as_many e [] (d ∷ ds) h = absurd h
as_many e (v ∷ vs) [] h = absurd h
as_many e (v ∷ vs) (d ∷ ds) h = let rest = as_many e vs ds h.1 in omega (arith, rest)

-- an automaton that is made of one of the text
abbrev pub IsMade : PlainTextTypes → AutomatonParts → Type 0
IsMade t c = (a : SourceAutomaton) × IsAutomatonOf t a c

pub all_made : (t : PlainTextTypes) (sources : List SourceAutomaton) (cs : List AutomatonParts) → AllZip (IsAutomatonOf t) sources cs → AllByRecursion (IsMade t) cs
all_made t [] [] h = tt
all_made t [] (c ∷ cs) h = absurd h
all_made t (a ∷ more) [] h = absurd h
all_made t (a ∷ more) (c ∷ cs) h = ((a, h.0), all_made t more cs h.1)

-- words differ if they differ as names
words_apart : (w : List ℕ) (ws : List (List ℕ)) → AllByRecursion (λ n. same_name (Word w) n ≡ false) (map Word ws) → AllByRecursion (λ v. same_word w v ≡ false) ws
words_apart w [] d = tt
words_apart w (v ∷ ws) d = (d.0, words_apart w ws d.1)

words_differ : (ws : List (List ℕ)) → IsDistinct same_name (map Word ws) → IsDistinct same_word ws
unfolding IsDistinct
words_differ [] d = tt
words_differ (w ∷ ws) d = (words_apart w ws d.0, words_differ ws d.1)

-- a program declares each thing once
program_once : (t : PlainTextTypes) (names : NameShapes) (automata : List AutomatonParts) (ns : List SourceNode) (k : ℕ) (p : Parts) → AllByRecursion (IsMade t) automata → IsNodeOf names automata ns k p → DeclaresOnce p
program_once t names automata ns k p made n =
    let c = p.automaton in
    let a : IsMade t p.automaton = found_has (IsMade t) (λ (b : AutomatonParts). same_word b.name n.node.automaton) automata p.automaton made n.automaton in
    let variables = variable_shapes c.variables in
    let given = parameter_shapes c.parameters in
    record {
      entries = subst (λ (ws : List (List ℕ)). IsDistinct same_word ws) (rule_words t c.parameters c.variables a.0.transitions a.0.signature c.rules a.1.rules) a.1.entries_differ;
      variables = words_differ (variable_names c.variables)
          (subst (λ (ns : List Name). IsDistinct same_name ns) (names_of_each (λ (v : CheckedVariable). v.declared.name) (λ (v : CheckedVariable). v.declared.shape) c.variables) (first_differ variables given (first_differ (variables ++ given) t.constants a.1.names)));
      valued = as_many (given_bindings c p.arguments) c.variables p.initial n.program.initial;
    }

pub programs_once : (t : PlainTextTypes) (names : NameShapes) (automata : List AutomatonParts) (ns : List SourceNode) (k : ℕ) (ps : List Parts) → AllByRecursion (IsMade t) automata → AreNodesOf names automata ns k ps → AllByRecursion DeclaresOnce ps
programs_once t names automata ns k [] made nodes = tt
programs_once t names automata ns k (p ∷ more) made nodes =
    (program_once t names automata ns k p made nodes.0, programs_once t names automata ns (k + 1) more made nodes.1)

-- the nodes of scripts differ
script_apart : (names : NameShapes) (ps : List Parts) (s : SourceScript) (k : ℤ) → s.node ≡ k → (ss : List SourceScript) (cs : List ScriptParts) → AllZip (IsScriptOf names ps) ss cs → AllByRecursion (λ t. same_node s t ≡ false) ss → AllByRecursion (λ i. int_eq k i ≡ false) (map (λ c. c.node) cs)
script_apart names ps s k e [] [] h d = tt
script_apart names ps s k e [] (c ∷ cs) h d = absurd h
script_apart names ps s k e (t ∷ ts) [] h d = absurd h
script_apart names ps s k e (t ∷ ts) (c ∷ cs) h d =
    (rw (h.0.node, ← e) d.0, script_apart names ps s k e ts cs h.1 d.1)

pub scripts_differ : (names : NameShapes) (ps : List Parts) (ss : List SourceScript) (cs : List ScriptParts) → AllZip (IsScriptOf names ps) ss cs → IsDistinct same_node ss → IsDistinct int_eq (map (λ c. c.node) cs)
unfolding IsDistinct
scripts_differ names ps [] [] h d = tt
scripts_differ names ps [] (c ∷ cs) h d = absurd h
scripts_differ names ps (s ∷ ss) [] h d = absurd h
scripts_differ names ps (s ∷ ss) (c ∷ cs) h d = (script_apart names ps s c.node (sym h.0.node) ss cs h.1 d.0, scripts_differ names ps ss cs h.1 d.1)

-- and are nodes of the system
found_any : {A : Type 0} (test : A → Bool) (xs : List A) (x : A) → find test xs ≡ Some x → list_any test xs ≡ true
found_any test [] x h = absurd (cc)
found_any test (y ∷ ys) x h = by_test (test y) h (found_any test ys x)
  where
    by_test : (b : Bool) → (if b then Some y else find test ys) ≡ Some x → (find test ys ≡ Some x → list_any test ys ≡ true) → (b || list_any test ys) ≡ true
    by_test true h later = refl
    by_test false h later = later h

pub scripts_of_nodes : (names : NameShapes) (ps : List Parts) (ss : List SourceScript) (cs : List ScriptParts) → AllZip (IsScriptOf names ps) ss cs → AllByRecursion (λ c. has_node ps c.node ≡ true) cs
scripts_of_nodes names ps [] [] h = tt
scripts_of_nodes names ps [] (c ∷ cs) h = absurd h
scripts_of_nodes names ps (s ∷ ss) [] h = absurd h
scripts_of_nodes names ps (s ∷ ss) (c ∷ cs) h =
    (rw h.0.node (found_any (λ (p : Parts). int_eq p.node s.node) ps h.0.program h.0.of_node), scripts_of_nodes names ps ss cs h.1)
