-- Each action of an execution of an accepted system is one of the system's, none but sends and receives has the name of
-- messages, and chosen values are simple.
use Rattle.std.proofs.Common.{◌≡◌, ℕ, ℤ, true, false, List, [], ◌∷◌, inl, inr, refl, sym, subst, ◌∙◌}
use Rattle.std.specs.List.{AllByRecursion, AllZip}
use Rattle.std.specs.Ordering.{int_eq}
use Rattle.std.specs.Prelude.{Some}
use Rattle.std.proofs.lemmas.Bool.Decides.{Decides-int_eq}
use Rattle.std.proofs.lemmas.Slice.Eq.{bytes_eq-Decides}
use Rattle.ioa_values.specs.Data.{Data, items_of}
use Rattle.ioa_operators.specs.Shapes.{PlainShape, has_shape, have_shapes, shapes_of, wide_shape, wide_shapes_if}
use Rattle.ioa_terms.specs.Bindings.{Bindings, same_word}
use Rattle.ioa_terms.specs.SameTerms.{same_kind}
use Rattle.ioa_terms.specs.Sorted.{IsShaped, NameShapes}
use Rattle.ioa_terms.specs.declared.tree.Kind.{Kind}
use Rattle.ioa_terms.specs.declared.tree.Kind.TheVariants.{Input, Internal, Output}
use Rattle.ioa_terms.proofs.Sound.{value_has}
use Rattle.ioa_actions.specs.ActionParts.{action_arguments, action_name, node_of}
use Rattle.ioa_actions.specs.declared.action.Action.{Action}
use Rattle.ioa_actions.specs.declared.action.Action.TheVariants.{Local, Receive, Send, Stimulus}
use Rattle.ioa_source.specs.PlainText.{const, named}
use Rattle.ioa_source.specs.Sides.{CheckedParameter, SourceEntry, SourceParameter, SourceText}
use Rattle.ioa_system.specs.Declarations.{DeclaresOnce}
use Rattle.ioa_system.specs.InView.{entry_constant, given_bindings}
use Rattle.ioa_system.specs.Parts.{AutomatonParts, Parts, PlainRule, rule_named}
use Rattle.ioa_system.specs.Systems.{SystemParts, program_numbered}
use Rattle.ioa_sorts.proofs.Lookups.{contained_found, contained_has}
use Rattle.ioa_types.specs.TypeTables.{TypeTable}
use Rattle.ioa_automata.specs.SortedAutomata.{AreParametersOf, IsParameterOf, IsRuleOf, IsWellNamed, names_at}
use Rattle.ioa_check.specs.Systems.{IsSystemOf}
use Rattle.ioa_check.proofs.Declared.{declared_once}
use Rattle.ioa_lines.specs.Lines.{is_input}
use Rattle.ioa_transitions.specs.Entries.{PlainEntry}
use Rattle.ioa_transitions.specs.NodeStep.{HasRule, IsOfKind, TakesArgument}
use Rattle.ioa_compose.specs.Automata.{IsExecution}
use Rattle.ioa_compose.specs.Executions.{replay}
use Rattle.ioa_compose.specs.JointStep.{IsJointStep}
use Rattle.ioa_compose.specs.Start.{start}
use Rattle.ioa_compose.specs.Steps.{IsStep}
use Rattle.ioa_compose.specs.declared.configuration.Conf.{Conf}
use Rattle.ioa_compose.proofs.Projections.{replays}
use Rattle.ioa_compose.proofs.Starts.{start_state}
use Rattle.ioa_run_laws.proofs.Accepted.{IsAcceptedProgram, is_accepted, system_constants}
use Rattle.ioa_run_laws.proofs.Assigned.{widened}
use Rattle.ioa_run_laws.proofs.ChosenValues.{chosen_simple}
use Rattle.ioa_run_laws.proofs.Environments.{given_valued}
use Rattle.ioa_run_laws.proofs.NodeSteps.{is_rule}
use Rattle.ioa_run_laws.proofs.Runs.{IsOwnStep, run_steps}
use Rattle.ioa_run_laws.proofs.Starts.{all_contained}
use Rattle.ioa_printed_lines.specs.TextSystems.{IsNoMessage}
use Rattle.ioa_report_laws.specs.Signatures.{IsInSignature}
use Rattle.ioa_report_laws.specs.Taken.{IsTaken}

-- the kind of an action and that of its entry
kind_taken : (a : Action) (k : Kind) → IsOfKind a k → same_kind k Input ≡ is_input a
kind_taken (Send m i j) k e = subst (λ (y : Kind). same_kind y Input ≡ false) (sym e) refl
kind_taken (Receive m i j) k e = subst (λ (y : Kind). same_kind y Input ≡ true) (sym e) refl
kind_taken (Local a) k (inl e) = subst (λ (y : Kind). same_kind y Input ≡ false) (sym e) refl
kind_taken (Local a) k (inr e) = subst (λ (y : Kind). same_kind y Input ≡ false) (sym e.0) refl
kind_taken (Stimulus a) k e = subst (λ (y : Kind). same_kind y Input ≡ true) (sym e.0) refl

-- no kind is both
not_both : (k : Kind) → k ≡ Output → k ≡ Input → ⊥
not_both k out into = absurd (cc)

internal_out : (k : Kind) → k ≡ Internal → k ≡ Output → ⊥
internal_out k own out = absurd (cc)

internal_in : (k : Kind) → k ≡ Internal → k ≡ Input → ⊥
internal_in k own into = absurd (cc)

-- an entry is named `send` only if it is an output, and `receive` only if it is an input
no_message : (a : Action) (r : PlainRule) → r.entry.name ≡ action_name a → IsOfKind a r.entry.kind → IsWellNamed (record { entry = r.entry; shapes = r.shapes }) → IsNoMessage a
no_message (Send m i j) r name kind well = tt
no_message (Receive m i j) r name kind well = tt
no_message (Local a) r name (inl e) well = (
  λ is. internal_out r.entry.kind e (well.send (name ∙ is)).kind,
  λ is. internal_in r.entry.kind e (well.receive (name ∙ is)).kind,
)
no_message (Local a) r name (inr e) well = (
  e.1,
  λ is. not_both r.entry.kind e.0 (well.receive (name ∙ is)).kind,
)
no_message (Stimulus a) r name e well = (
  λ is. not_both r.entry.kind (well.send (name ∙ is)).kind e.0,
  e.1,
)

-- an argument has the shape at its position, but for signs
module _ (types : TypeTable) (names : NameShapes) (b : Bindings) (shaped : IsShaped names b) where
  argument_taken : (u : SourceParameter) (p : CheckedParameter) (s : PlainShape) (v : Data) → IsParameterOf types names u p s → TakesArgument b p v → has_shape (wide_shape s) v ≡ true
  argument_taken (const u) (const c) s v h k = widened s v (value_has names b shaped c s h.term.has_shape v k)
  argument_taken (const u) (named d) s v h k = absurd h
  argument_taken (named u) (const c) s v h k = absurd h
  argument_taken (named u) (named d) s v h k = subst (λ (z : PlainShape). has_shape (wide_shape z) v ≡ true) (sym h.1) k

  arguments_taken : (us : List SourceParameter) (ps : List CheckedParameter) (ss : List PlainShape) (vs : List Data) → AreParametersOf types names us ps ss → AllZip (TakesArgument b) ps vs → have_shapes (wide_shapes_if true (shapes_of ss)) (items_of vs) ≡ true
  arguments_taken [] [] [] [] h k = refl
  arguments_taken [] [] [] (v ∷ vs) h k = absurd k
  arguments_taken [] [] (s ∷ ss) vs h k = absurd h
  arguments_taken [] (p ∷ ps) ss vs h k = absurd h
  arguments_taken (u ∷ us) [] ss vs h k = absurd h
  arguments_taken (u ∷ us) (p ∷ ps) [] vs h k = absurd h
  arguments_taken (u ∷ us) (p ∷ ps) (s ∷ ss) [] h k = absurd k
  arguments_taken (u ∷ us) (p ∷ ps) (s ∷ ss) (v ∷ vs) h k = rw (argument_taken u p s v h.0 k.0) (arguments_taken us ps ss vs h.1 k.1)

-- the node of an entry that it takes, and the rule that it takes, are found by the number and the name of the action
own_placed : (x : SourceText) (s : SystemParts) → IsSystemOf x s → (en : PlainEntry) (own : IsOwnStep s en) → program_numbered (node_of en.action) s.programs ≡ Some own.old.program
own_placed x s h en own =
    subst (λ (k : ℤ). program_numbered k s.programs ≡ Some own.old.program) own.number
    (contained_found int_eq (λ k. (Decides-int_eq k k).1 refl) (λ (q : Parts). q.node) s.programs (declared_once x s h).nodes own.old.program own.shaped.program)

own_named : (x : SourceText) (s : SystemParts) → IsSystemOf x s → (en : PlainEntry) (own : IsOwnStep s en) → rule_named (action_name en.action) own.old.program.automaton.rules ≡ Some own.step.rule
own_named x s h en own =
    let once : DeclaresOnce own.old.program = contained_has DeclaresOnce s.programs own.old.program (declared_once x s h).programs own.shaped.program in
    subst (λ (w : List ℕ). rule_named w own.old.program.automaton.rules ≡ Some own.step.rule) own.step.mine.action.name
    (contained_found same_word (λ w. (bytes_eq-Decides w w).1 refl) (λ (q : PlainRule). q.entry.name) own.old.program.automaton.rules once.entries own.step.rule own.step.mine.present)

-- so the action is in the signature of the node, with a kind
in_signature : (x : SourceText) (s : SystemParts) → IsSystemOf x s → (en : PlainEntry) → IsOwnStep s en → (k : Kind) × IsInSignature s en.action k
in_signature x s h en own = (
  own.step.rule.entry.kind,
  record {
    program = own.old.program;
    placed = own_placed x s h en own;
    rule = own.step.rule;
    found = own_named x s h en own;
    kind = refl;
    of_kind = own.step.mine.action.kind;
  },
)

-- what a node takes
node_taken : (x : SourceText) (s : SystemParts) → IsSystemOf x s → (en : PlainEntry) → IsOwnStep s en → IsTaken s en
node_taken x s h en own = record {
  action = record {
    program = p;
    placed = own_placed x s h en own;
    rule = r;
    named = own_named x s h en own;
    kind = kind_taken en.action r.entry.kind mine.action.kind;
    sorted = arguments_taken h.types.types (names_at entry_constant h.types.constants b.parameters b.variables []) (given_bindings b p.arguments)
        (given_valued h.types b accepted.automaton.constants (system_constants x s h) p.arguments own.shaped.arguments).shaped
        made.0.parameters r.entry.parameters r.shapes (action_arguments en.action) made.1.parameters mine.action.arguments;
  };
  message = no_message en.action r mine.action.name mine.action.kind made.1.message;
  chosen = chosen_simple x s h en own;
}
  where
    p : Parts
    p = own.old.program

    b : AutomatonParts
    b = p.automaton

    r : PlainRule
    r = own.step.rule

    mine : HasRule p en.action r
    mine = own.step.mine

    accepted : IsAcceptedProgram h.types p
    accepted = is_accepted x s h p own.shaped.program

    made : (e : SourceEntry) × IsRuleOf h.types b.parameters b.variables accepted.source.transitions e r
    made = is_rule h.types p accepted r mine.present

-- an execution from the start, and a replay from it
pub entries_taken : (x : SourceText) (s : SystemParts) (entries : List PlainEntry) (cs : List Conf) → IsSystemOf x s → IsExecution (IsJointStep IsStep) (start s) entries cs → AllByRecursion (IsTaken s) entries
entries_taken x s entries cs h e = all_contained (IsTaken s) entries (λ en c. node_taken x s h en (contained_has (IsOwnStep s) entries en (run_steps x s entries cs h e) c))

pub signatures_taken : (x : SourceText) (s : SystemParts) (entries : List PlainEntry) (cs : List Conf) → IsSystemOf x s → IsExecution (IsJointStep IsStep) (start s) entries cs → AllByRecursion (λ en. (k : Kind) × IsInSignature s en.action k) entries
signatures_taken x s entries cs h e = all_contained (λ en. (k : Kind) × IsInSignature s en.action k) entries (λ en c. in_signature x s h en (contained_has (IsOwnStep s) entries en (run_steps x s entries cs h e) c))

pub replay_taken : (x : SourceText) (s : SystemParts) (entries : List PlainEntry) (cs : List Conf) → IsSystemOf x s → replay entries (start s) ≡ Some cs → AllByRecursion (IsTaken s) entries
replay_taken x s entries cs h e = entries_taken x s entries cs h (replays entries (start s) cs (start_state s (declared_once x s h)) e)
