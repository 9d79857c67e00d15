-- The tuple types in the shapes of an automaton are the declared ones of their names.
use Rattle.std.proofs.Common.{List, [], ◌∷◌, ◌++◌, sym, subst, map}
use Rattle.std.specs.List.{AllByRecursion, AllZip}
use Rattle.ioa_operators.specs.Shapes.{PlainShape}
use Rattle.ioa_terms.specs.Sorted.{NameShapes}
use Rattle.ioa_source.specs.PlainText.{const, named}
use Rattle.ioa_source.specs.Sides.{SourceAutomaton, SourceDeclared, SourceEntry, SourceParameter, SourceTransition, SourceVariable, CheckedDeclared, CheckedParameter, CheckedVariable}
use Rattle.ioa_system.specs.InView.{entry_constant, initial_value}
use Rattle.ioa_system.specs.Parts.{AutomatonParts, PlainRule}
use Rattle.ioa_sort_rules.specs.DeclaredTypes.{IsDeclared, AreAllDeclared}
use Rattle.ioa_sorts.proofs.Complete.{infer_complete}
use Rattle.ioa_sorts.proofs.Sound.{own_declared}
use Rattle.ioa_types.specs.Meanings.{AreTextTypes, tuple_types}
use Rattle.ioa_types.specs.TextTypes.{PlainTextTypes}
use Rattle.ioa_types.proofs.Meant.{sort_declared, sort_found}
use Rattle.ioa_automata.specs.DeclaredShapes.{HasDeclaredShapes}
use Rattle.ioa_automata.specs.NamesInView.{parameter_shapes}
use Rattle.ioa_automata.specs.SortedAutomata.{AreParametersOf, IsAutomatonOf, IsDeclaredOf, IsRuleOf, IsVariableOf, names_at}

module _ (t : PlainTextTypes) (types : AreTextTypes t) where
  -- a declared name
  one_declared : (d : SourceDeclared) (c : CheckedDeclared) → IsDeclaredOf t.types d c → IsDeclared (tuple_types t.types) c.shape
  one_declared d c h = sort_declared t.types types.types d.sort c.shape (sort_found t.types d.sort c.shape h.means h.low)

  parameters_declared : (ds : List SourceDeclared) (cs : List CheckedDeclared) → AllZip (IsDeclaredOf t.types) ds cs → AllByRecursion (IsDeclared (tuple_types t.types)) (map (λ d. d.shape) cs)
  parameters_declared [] [] h = tt
  parameters_declared [] (c ∷ cs) h = absurd h
  parameters_declared (d ∷ ds) [] h = absurd h
  parameters_declared (d ∷ ds) (c ∷ cs) h = (one_declared d c h.0, parameters_declared ds cs h.1)

  variables_declared : (names : NameShapes) (us : List SourceVariable) (cs : List CheckedVariable) → AllZip (IsVariableOf t.types names) us cs → AllByRecursion (λ v. IsDeclared (tuple_types t.types) v.declared.shape) cs
  variables_declared names [] [] h = tt
  variables_declared names [] (c ∷ cs) h = absurd h
  variables_declared names (u ∷ us) [] h = absurd h
  variables_declared names (u ∷ us) (c ∷ cs) h = (one_declared u.declared c.declared h.0.declared, variables_declared names us cs h.1)

  -- the names in view of the constants of entries
  names_declared : (ds : List SourceDeclared) (cs : List CheckedDeclared) (more : NameShapes) → AllZip (IsDeclaredOf t.types) ds cs → AreAllDeclared (tuple_types t.types) more → AreAllDeclared (tuple_types t.types) (parameter_shapes cs ++ more)
  names_declared [] [] more h g = g
  names_declared [] (c ∷ cs) more h g = absurd h
  names_declared (d ∷ ds) [] more h g = absurd h
  names_declared (d ∷ ds) (c ∷ cs) more h g = (one_declared d c h.0, names_declared ds cs more h.1 g)

  -- the arguments of an entry
  arguments_declared : (names : NameShapes) → AreAllDeclared (tuple_types t.types) names → (us : List SourceParameter) (ps : List CheckedParameter) (ss : List PlainShape) → AreParametersOf t.types names us ps ss → AllByRecursion (IsDeclared (tuple_types t.types)) ss
  arguments_declared names declared us ps [] h = tt
  arguments_declared names declared [] [] (r ∷ rs) h = absurd h
  arguments_declared names declared [] (p ∷ ps) (r ∷ rs) h = absurd h
  arguments_declared names declared (u ∷ us) [] (r ∷ rs) h = absurd h
  arguments_declared names declared (const u ∷ us) (const c ∷ ps) (r ∷ rs) h =
      (own_declared (tuple_types t.types) names declared u c r (infer_complete names u c r h.0.term h.0.own), arguments_declared names declared us ps rs h.1)
  arguments_declared names declared (const u ∷ us) (named c ∷ ps) (r ∷ rs) h = absurd h.0
  arguments_declared names declared (named u ∷ us) (const c ∷ ps) (r ∷ rs) h = absurd h.0
  arguments_declared names declared (named u ∷ us) (named c ∷ ps) (r ∷ rs) h =
      (subst (IsDeclared (tuple_types t.types)) (sym h.0.1) (one_declared u c h.0.0), arguments_declared names declared us ps rs h.1)

  module _ (ds : List CheckedDeclared) (vs : List CheckedVariable) (declared : AreAllDeclared (tuple_types t.types) (names_at entry_constant t.constants ds vs [])) where
    rules_declared : (us : List SourceTransition) (es : List SourceEntry) (rs : List PlainRule) → AllZip (IsRuleOf t ds vs us) es rs → AllByRecursion (λ r. AllByRecursion (IsDeclared (tuple_types t.types)) r.shapes) rs
    rules_declared us [] [] h = tt
    rules_declared us [] (r ∷ rs) h = absurd h
    rules_declared us (e ∷ es) [] h = absurd h
    rules_declared us (e ∷ es) (r ∷ rs) h =
        (arguments_declared (names_at entry_constant t.constants ds vs []) declared e.parameters r.entry.parameters r.shapes h.0.parameters, rules_declared us es rs h.1)

  -- an automaton
  pub automaton_declared : (a : SourceAutomaton) (c : AutomatonParts) → IsAutomatonOf t a c → HasDeclaredShapes (tuple_types t.types) c
  automaton_declared a c h = record {
    parameters = parameters_declared a.parameters c.parameters h.parameters;
    variables = variables_declared (names_at initial_value t.constants c.parameters c.variables []) a.states c.variables h.variables;
    arguments = rules_declared c.parameters c.variables (names_declared a.parameters c.parameters t.constants h.parameters types.constants) a.transitions a.signature c.rules h.rules;
  }
