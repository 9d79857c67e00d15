-- A step of a node keeps the shapes.
use Rattle.std.proofs.Common.{◌≡◌, ℕ, false, List, [], ◌∷◌, ◌++◌, Some, refl, sym, subst, map, take, length, append_assoc}
use Rattle.std.specs.List.{AllByRecursion, AllZip, Contains, IsDistinct}
use Rattle.std.proofs.lemmas.Slice.Eq.{bytes_eq-Decides}
use Rattle.ioa_values.specs.Data.{Data}
use Rattle.ioa_operators.specs.Shapes.{PlainShape}
use Rattle.ioa_terms.specs.declared.name.Name.TheVariants.{Word}
use Rattle.ioa_terms.specs.Choices.{left, given}
use Rattle.ioa_terms.specs.Bindings.{Bindings, same_name, lookup, names_of}
use Rattle.ioa_terms.specs.Sorted.{NameShapes, shape_named}
use Rattle.ioa_terms.specs.Sorted.{IsShaped}
use Rattle.ioa_actions.specs.ActionParts.{action_arguments}
use Rattle.ioa_actions.specs.declared.action.Action.{Action}
use Rattle.ioa_source.specs.Sides.{SourceEntry, SourceText, CheckedParameter, CheckedVariable}
use Rattle.ioa_system.specs.InView as view
use Rattle.ioa_system.specs.InView.{Site, guard_or_effect, variable_names, own_names}
use Rattle.ioa_system.specs.Parts.{AutomatonParts, Parts, PlainRule}
use Rattle.ioa_system.specs.Systems.{SystemParts}
use Rattle.ioa_names.specs.NameTables.{AreDistinct, declared_names}
use Rattle.ioa_types.specs.TextTypes.{PlainTextTypes}
use Rattle.ioa_automata.specs.NamesInView.{parameter_shapes, variable_shapes, own_shapes}
use Rattle.ioa_automata.specs.SortedAutomata.{IsRuleOf, names_at}
use Rattle.ioa_sections.proofs.Tests.{word_turned}
use Rattle.ioa_check.specs.Systems.{IsSystemOf}
use Rattle.ioa_transitions.specs.Entries.{PlainEntry}
use Rattle.ioa_transitions.specs.NodeState.{NodeState, node_state}
use Rattle.ioa_transitions.specs.NodeStep.{IsOfSort, IsNodeStep, own_values, rule_bindings}
use Rattle.ioa_run_laws.specs.Shaped.{FitsVariable, IsShapedNode}
use Rattle.ioa_run_laws.proofs.Environments.{bindings_valued, bindings_names, own_fit}
use Rattle.ioa_run_laws.proofs.Effects.{found_in_front, effect_shaped}
use Rattle.ioa_run_laws.proofs.Throughout.{HasValuesOf}
use Rattle.ioa_sorts.proofs.Lookups.{contained_has}
use Rattle.ioa_run_laws.proofs.Accepted.{IsAcceptedProgram, each_related, is_accepted, system_constants}

-- a state variable has its declared shape among names
abbrev IsNamed : NameShapes → CheckedVariable → Type 0
IsNamed ns v = shape_named (Word v.declared.name) ns ≡ Some v.declared.shape

named_later : (w : List ℕ) (s : PlainShape) (vs : List CheckedVariable) (more ns : NameShapes) → AllByRecursion (λ y. same_name (Word w) y ≡ false) (declared_names (variable_shapes vs ++ more)) → AllByRecursion (IsNamed ns) vs → AllByRecursion (IsNamed ((Word w, s) ∷ ns)) vs
named_later w s [] more ns apart h = tt
named_later w s (v ∷ vs) more ns apart h = (rw (word_turned w v.declared.name apart.0) h.0, named_later w s vs more ns apart.1 h.1)

-- state variables whose names differ, in front of others
named_in_front : (vs : List CheckedVariable) (more : NameShapes) → AreDistinct (variable_shapes vs ++ more) → AllByRecursion (IsNamed (variable_shapes vs ++ more)) vs
unfolding IsDistinct
named_in_front [] more d = tt
named_in_front (v ∷ vs) more d = (
  rw ((bytes_eq-Decides v.declared.name v.declared.name).1 refl) refl,
  named_later v.declared.name v.declared.shape vs more (variable_shapes vs ++ more) d.0 (named_in_front vs more d.1),
)

-- the state variables are among the names in view of an effect
pub variables_named : (constants : NameShapes) (a : AutomatonParts) (own : List CheckedParameter) → AreDistinct (names_at guard_or_effect constants a.parameters a.variables own) → AllByRecursion (IsNamed (names_at guard_or_effect constants a.parameters a.variables own)) a.variables
variables_named constants a own d =
    subst (λ (ns : NameShapes). AllByRecursion (IsNamed ns) a.variables) (sym whole) (named_in_front a.variables behind (subst AreDistinct whole d))
  where
    behind : NameShapes
    behind = (parameter_shapes a.parameters ++ own_shapes own) ++ constants

    whole : names_at guard_or_effect constants a.parameters a.variables own ≡ variable_shapes a.variables ++ behind
    whole = append_assoc (variable_shapes a.variables) (parameter_shapes a.parameters ++ own_shapes own) constants

-- what is left to the state variables has their shapes
left_fit : (names : NameShapes) (reached : Bindings) → IsShaped names reached → (vs : List CheckedVariable) (ds : List Data) → AllByRecursion (IsNamed names) vs →
    map (λ x. lookup (Word x) reached) (variable_names vs) ≡ map Some ds → AllZip FitsVariable vs ds
left_fit names reached g [] [] h k = tt
left_fit names reached g [] (d ∷ ds) h k = absurd (cc)
left_fit names reached g (v ∷ vs) [] h k = absurd (cc)
left_fit names reached g (v ∷ vs) (d ∷ ds) h k =
    let first : lookup (Word v.declared.name) reached ≡ Some d = cc in
    let others : map (λ x. lookup (Word x) reached) (variable_names vs) ≡ map Some ds = cc in
    (g (Word v.declared.name) v.declared.shape d h.0 first, left_fit names reached g vs ds h.1 others)

-- what the terms of a rule read at a site, if the arguments of an action are of their sorts
pub rule_valued : (x : SourceText) (s : SystemParts) (h : IsSystemOf x s) (c : NodeState) → IsShapedNode s c → (site : Site) (r : PlainRule) (a : Action) → AllZip IsOfSort r.entry.parameters (action_arguments a) →
    HasValuesOf (names_at site h.types.constants c.program.automaton.parameters c.program.automaton.variables r.entry.parameters) (rule_bindings site r a c)
rule_valued x s h c shaped site r a sorts =
    let p = is_accepted x s h c.program shaped.program in
    bindings_valued h.types c.program.automaton p.automaton.constants (system_constants x s h) site r.entry.parameters c.program.arguments c.variables (own_values r.entry.parameters (action_arguments a))
    shaped.arguments shaped.variables (own_fit r.entry.parameters (action_arguments a) sorts)

-- it has the names in view
pub rule_names : (x : SourceText) (s : SystemParts) (h : IsSystemOf x s) (c : NodeState) → IsShapedNode s c → (site : Site) (r : PlainRule) (a : Action) → AllZip IsOfSort r.entry.parameters (action_arguments a) →
    names_of (rule_bindings site r a c) ≡ view.names_at site (view.declared_names c.program.automaton) (own_names r.entry.parameters)
rule_names x s h c shaped site r a sorts =
    let p = is_accepted x s h c.program shaped.program in
    bindings_names h.types c.program.automaton p.automaton.constants (system_constants x s h) site r.entry.parameters c.program.arguments c.variables (own_values r.entry.parameters (action_arguments a))
    shaped.arguments shaped.variables (own_fit r.entry.parameters (action_arguments a) sorts)

-- a rule of a program is one of the text's
pub is_rule : (t : PlainTextTypes) (p : Parts) (accepted : IsAcceptedProgram t p) (r : PlainRule) → Contains p.automaton.rules r →
    (e : SourceEntry) × IsRuleOf t p.automaton.parameters p.automaton.variables accepted.source.transitions e r
is_rule t p accepted r c =
    contained_has (λ (q : PlainRule). (e : SourceEntry) × IsRuleOf t p.automaton.parameters p.automaton.variables accepted.source.transitions e q) p.automaton.rules r
    (each_related (IsRuleOf t p.automaton.parameters p.automaton.variables accepted.source.transitions) accepted.source.signature p.automaton.rules accepted.automaton.rules) c

-- the step of a node
pub step_shaped : (x : SourceText) (s : SystemParts) (en : PlainEntry) (c d : NodeState) → IsSystemOf x s → IsShapedNode s c → IsNodeStep en c d → IsShapedNode s d
step_shaped x s en c d h shaped step =
    subst (λ (p : Parts). IsShapedNode s (node_state p d.variables)) (sym step.program) (record {
      program = shaped.program;
      arguments = shaped.arguments;
      variables = left_fit names step.reached left_shaped b.variables d.variables (variables_named h.types.constants b r.entry.parameters made.1.step_names) step.variables;
    })
  where
    b : AutomatonParts
    b = c.program.automaton

    r : PlainRule
    r = step.rule

    names : NameShapes
    names = names_at guard_or_effect h.types.constants b.parameters b.variables r.entry.parameters

    made : (e : SourceEntry) × IsRuleOf h.types b.parameters b.variables (is_accepted x s h c.program shaped.program).source.transitions e r
    made = is_rule h.types c.program (is_accepted x s h c.program shaped.program) r step.mine.present

    left_shaped : IsShaped names step.reached
    left_shaped = effect_shaped h.types.types (take (length b.variables) names) names (λ y t found. found_in_front y (length b.variables) names t found)
        made.1.written.effect r.transition.effect (left (rule_bindings guard_or_effect r en.action c) (given en.chosen)) (left step.reached (given [])) made.1.transition.effect
        (rule_valued x s h c shaped guard_or_effect r en.action step.sorts).shaped step.effect
