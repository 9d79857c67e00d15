-- The system of a text has names, and shapes of the text.
use Rattle.std.proofs.Common.{◌≡◌, ◌≤◌, ◌+◌, ℕ, suc, List, [], ◌∷◌, ◌++◌, sym, subst, arith, length}
use Rattle.std.specs.List.{AllByRecursion, AllZip}
use Rattle.ioa_operators.specs.Shapes.{PlainShape}
use Rattle.ioa_tokens.specs.Lexeme.{greatest_number}
use Rattle.ioa_tokens.specs.Written.{IsName}
use Rattle.ioa_terms.specs.Bindings.{same_word}
use Rattle.ioa_terms.specs.Sorted.{NameShapes}
use Rattle.ioa_source.specs.PlainText.{automaton, const, named, type_named}
use Rattle.ioa_source.specs.Sides.{CheckedDeclared, CheckedParameter, CheckedVariable, SourceAutomaton, SourceDeclaration, SourceDeclared, SourceEntry, SourceNode, SourceParameter, SourceText, SourceTransition, SourceVariable}
use Rattle.ioa_system.specs.InView.{entry_constant, initial_value}
use Rattle.ioa_system.specs.Parts.{AutomatonParts, Parts, PlainRule}
use Rattle.ioa_system.specs.Systems.{SystemParts}
use Rattle.ioa_sorts.proofs.Lookups.{found_has}
use Rattle.ioa_types.specs.TextTypes.{PlainTextTypes}
use Rattle.ioa_text_reader.specs.Texts.{TextSpells}
use Rattle.ioa_automata.specs.NamesInView.{parameter_shapes}
use Rattle.ioa_automata.specs.SortedAutomata.{AreParametersOf, IsAutomatonOf, IsDeclaredOf, IsRuleOf, IsVariableOf, names_at}
use Rattle.ioa_sections.specs.Sections.{automata_in, nodes_in}
use Rattle.ioa_sections.specs.Meant.{AreNodesOf}
use Rattle.ioa_sections.specs.declared.nodes.TheConstants.{MOST_NODES}
use Rattle.ioa_check.specs.Systems.{IsSystemOf}
use Rattle.ioa_printed_lines.specs.TextSystems.{AreConstantNames, IsTextParameter, IsTextProgram, IsTextRule, IsTextShape, IsTextSystem, IsTextVariable}
use Rattle.ioa_text_laws.proofs.DeclaredNames.{AreNamedEntries, IsNamedDeclaration, text_named}
use Rattle.ioa_text_laws.proofs.TextShapes.{AreTextNames, AreTextual, as_many_words, constant_names, means_text, text_types}
use Rattle.ioa_text_laws.proofs.TermShapes.{own_text}

-- numbers of nodes, which are few
low_number : (k many : ℕ) → k + suc many ≤ MOST_NODES → k ≤ greatest_number
low_number k many low = omega (arith, low)

next_low : (k many : ℕ) → k + suc many ≤ MOST_NODES → (k + 1) + many ≤ MOST_NODES
next_low k many low = omega (arith, low)

few_programs : (many nodes : ℕ) → many ≡ nodes → nodes ≤ MOST_NODES → 0 + many ≤ MOST_NODES
few_programs many nodes same few = omega (arith, same, few)

-- the automata of a text have entries with names
automata_named : (ds : List SourceDeclaration) → AllByRecursion IsNamedDeclaration ds → AllByRecursion (λ a. AreNamedEntries a.signature) (automata_in ds)
automata_named [] h = tt
automata_named (type_named d ∷ more) h = automata_named more h.1
automata_named (automaton a ∷ more) h = (h.0, automata_named more h.1)

module _ (t : PlainTextTypes) (textual : AreTextual t) where
  abbrev IsOfText : PlainShape → Type 0
  IsOfText s = IsTextShape (length t.constants) s

  -- a declared name
  declared_text : (d : SourceDeclared) (c : CheckedDeclared) → IsDeclaredOf t.types d c → IsOfText c.shape
  declared_text d c h = means_text (length t.constants) t.types textual.types d.sort c.shape h.means

  -- what the constants of entries read
  names_text : (ds : List SourceDeclared) (cs : List CheckedDeclared) → AllZip (IsDeclaredOf t.types) ds cs → AreTextNames (length t.constants) (parameter_shapes cs ++ t.constants)
  names_text [] [] h = textual.constants
  names_text [] (c ∷ cs) h = absurd h
  names_text (d ∷ ds) [] h = absurd h
  names_text (d ∷ ds) (c ∷ cs) h = (declared_text d c h.0, names_text ds cs h.1)

  -- the arguments of an entry
  arguments_text : (names : NameShapes) → AreTextNames (length t.constants) names → (us : List SourceParameter) (ps : List CheckedParameter) (ss : List PlainShape) → AreParametersOf t.types names us ps ss → AllByRecursion IsOfText ss
  arguments_text names all us ps [] h = tt
  arguments_text names all [] [] (s ∷ ss) h = absurd h
  arguments_text names all [] (p ∷ ps) (s ∷ ss) h = absurd h
  arguments_text names all (u ∷ us) [] (s ∷ ss) h = absurd h
  arguments_text names all (const u ∷ us) (const c ∷ ps) (s ∷ ss) h = (own_text (length t.constants) names all u c s h.0, arguments_text names all us ps ss h.1)
  arguments_text names all (const u ∷ us) (named c ∷ ps) (s ∷ ss) h = absurd h.0
  arguments_text names all (named u ∷ us) (const c ∷ ps) (s ∷ ss) h = absurd h.0
  arguments_text names all (named u ∷ us) (named c ∷ ps) (s ∷ ss) h =
      (subst (λ (z : PlainShape). IsOfText z) (sym h.0.1) (declared_text u c h.0.0), arguments_text names all us ps ss h.1)

  -- the parameters of an entry
  parameters_text : (names : NameShapes) → (us : List SourceParameter) (ps : List CheckedParameter) (ss : List PlainShape) → AreParametersOf t.types names us ps ss → AllByRecursion (IsTextParameter (length t.constants)) ps
  parameters_text names us [] ss h = tt
  parameters_text names [] (p ∷ ps) ss h = absurd h
  parameters_text names (u ∷ us) (p ∷ ps) [] h = absurd h
  parameters_text names (const u ∷ us) (const c ∷ ps) (s ∷ ss) h = (tt, parameters_text names us ps ss h.1)
  parameters_text names (const u ∷ us) (named c ∷ ps) (s ∷ ss) h = absurd h.0
  parameters_text names (named u ∷ us) (const c ∷ ps) (s ∷ ss) h = absurd h.0
  parameters_text names (named u ∷ us) (named c ∷ ps) (s ∷ ss) h = (declared_text u c h.0.0, parameters_text names us ps ss h.1)

  -- rules
  rules_text : (ds : List CheckedDeclared) (vs : List CheckedVariable) → AreTextNames (length t.constants) (names_at entry_constant t.constants ds vs []) → (us : List SourceTransition) (es : List SourceEntry) (rs : List PlainRule) →
      AreNamedEntries es → AllZip (IsRuleOf t ds vs us) es rs → AllByRecursion (IsTextRule (length t.constants)) rs
  rules_text ds vs all us [] [] name h = tt
  rules_text ds vs all us [] (r ∷ rs) name h = absurd h
  rules_text ds vs all us (e ∷ es) [] name h = absurd h
  rules_text ds vs all us (e ∷ es) (r ∷ rs) name h = (
    record {
      name = subst IsName (sym h.0.name) name.0;
      parameters = parameters_text (names_at entry_constant t.constants ds vs []) e.parameters r.entry.parameters r.shapes h.0.parameters;
      shapes = arguments_text (names_at entry_constant t.constants ds vs []) all e.parameters r.entry.parameters r.shapes h.0.parameters;
    },
    rules_text ds vs all us es rs name.1 h.1,
  )

  -- state variables
  variables_text : (names : NameShapes) (vs : List SourceVariable) (cs : List CheckedVariable) → AllZip (IsVariableOf t.types names) vs cs → AllByRecursion (IsTextVariable (length t.constants)) cs
  variables_text names [] [] h = tt
  variables_text names [] (c ∷ cs) h = absurd h
  variables_text names (v ∷ vs) [] h = absurd h
  variables_text names (v ∷ vs) (c ∷ cs) h = (declared_text v.declared c.declared h.0.declared, variables_text names vs cs h.1)

  -- automata
  record HasTextParts (c : AutomatonParts) : Type 0 where
    rules : AllByRecursion (IsTextRule (length t.constants)) c.rules
    variables : AllByRecursion (IsTextVariable (length t.constants)) c.variables

  automata_text : (us : List SourceAutomaton) (cs : List AutomatonParts) → AllByRecursion (λ a. AreNamedEntries a.signature) us → AllZip (IsAutomatonOf t) us cs → AllByRecursion HasTextParts cs
  automata_text [] [] name h = tt
  automata_text [] (c ∷ cs) name h = absurd h
  automata_text (a ∷ us) [] name h = absurd h
  automata_text (a ∷ us) (c ∷ cs) name h = (
    record {
      rules = rules_text c.parameters c.variables (names_text a.parameters c.parameters h.0.parameters) a.transitions a.signature c.rules name.0 h.0.rules;
      variables = variables_text (names_at initial_value t.constants c.parameters c.variables []) a.states c.variables h.0.variables;
    },
    automata_text us cs name.1 h.1,
  )

  -- programs
  programs_text : (cs : List AutomatonParts) → AllByRecursion HasTextParts cs → (ns : List SourceNode) (k : ℕ) (ps : List Parts) → k + length ps ≤ MOST_NODES → AreNodesOf t.constants cs ns k ps → AllByRecursion (IsTextProgram (length t.constants)) ps
  programs_text cs all ns k [] low h = tt
  programs_text cs all ns k (p ∷ ps) low h =
      let of_text : HasTextParts p.automaton = found_has HasTextParts (λ (c : AutomatonParts). same_word c.name h.0.node.automaton) cs p.automaton all h.0.automaton in (
        record {
          number_of = k;
          node = h.0.number;
          low = low_number k (length ps) low;
          rules = of_text.rules;
          variables = of_text.variables;
        },
        programs_text cs all ns (k + 1) ps (next_low k (length ps) low) h.1,
      )

pub text_system : (p : SourceText) (text : List ℕ) (s : SystemParts) → TextSpells p text → IsSystemOf p s → IsTextSystem s
text_system p text s spelled h = record {
  names = subst AreConstantNames (sym h.names) (constant_names h.types textual);
  programs = subst (λ (many : ℕ). AllByRecursion (IsTextProgram many) s.programs) (sym count)
      (programs_text h.types textual h.automata (automata_text h.types textual (automata_in p.declarations) h.automata (automata_named p.declarations all_named) h.made) (nodes_in p.system) 0 s.programs few h.nodes);
}
  where
    all_named : AllByRecursion IsNamedDeclaration p.declarations
    all_named = text_named p text spelled

    textual : AreTextual h.types
    textual = text_types p.declarations h.types all_named h.declared

    count : length s.names ≡ length h.types.constants
    count = subst (λ (ws : List (List ℕ)). length ws ≡ length h.types.constants) (sym h.names) (as_many_words h.types textual)

    few : 0 + length s.programs ≤ MOST_NODES
    few = few_programs (length s.programs) (length (nodes_in p.system)) h.many h.few_nodes
