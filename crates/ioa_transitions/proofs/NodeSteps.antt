-- Steps of nodes.
use Rattle.std.proofs.Common.{◌≡◌, ℕ, Bool, true, false, List, [], ◌∷◌, ◌++◌, Option, Some, None, Result, Ok, Err, refl, sym, ap, subst, ◌∙◌, map, take, length}
use Rattle.std.specs.Prelude.{if◌then◌else◌}
use Rattle.ioa_values.specs.Data.{Data, number, truth, constant, tuple, sequence, finite_set, finite_map, as_truth}
use Rattle.ioa_values.specs.Outcome.{and_then}
use Rattle.ioa_terms.specs.declared.name.Name.TheVariants.{Word}
use Rattle.ioa_terms.specs.Bindings.{Bindings, lookup}
use Rattle.ioa_terms.proofs.Statements.{after_names}
use Rattle.ioa_terms.proofs.Redone.{redone_by}
use Rattle.ioa_terms.specs.Choices.{Source, made_values, given, yielded, Left, left, Lack}
use Rattle.ioa_terms.specs.declared.choices.EffectFault.{EffectFault}
use Rattle.ioa_terms.specs.declared.name.Name.{Name}
use Rattle.ioa_transitions.specs.Entries.{PlainEntry, entry}
use Rattle.std.proofs.lemmas.List.{length-map}
use Rattle.ioa_terms.specs.Meaning.{value, numbers_met, answer}
use Rattle.ioa_terms.specs.Performance.{after, numbers_met_by, answer_by}
use Rattle.ioa_actions.specs.declared.action.Action.{Action}
use Rattle.ioa_actions.specs.ActionParts.{action_arguments}
use Rattle.ioa_operators.specs.declared.fault.TermFault.{TermFault}
use Rattle.ioa_source.specs.Sides.{CheckedTerm, CheckedTransition, CheckedStatement}
use Rattle.ioa_system.specs.InView.{entry_condition, guard_or_effect, given_bindings, variable_names, parameter_names, own_names}
use Rattle.ioa_system.specs.Parts.{PlainRule}
use Rattle.ioa_actions.specs.declared.fault.StepFault.{StepFault}
use Rattle.ioa_actions.specs.declared.fault.StepFault.TheVariants.{Undefined}
use Rattle.ioa_transitions.specs.NodeState.{NodeState, node_state}
use Rattle.ioa_transitions.specs.NodeAnswers.{Taken, taken, all_taken, naturals_answer, redo_answer, pick_answer, truth_answer, value_answer, guard_answer, effect_answer, transition_answer, step_answer, are_natural, rule_for, rule_answer, values_answer}
use Rattle.ioa_transitions.specs.NodeStep.{rule_bindings, own_values, GuardHolds, HasRule, IsState, IsNodeStep, numbers_met_by_guard, numbers_met_by_parameters, numbers_met_by_rule, FitsNodeStep}
use Rattle.ioa_transitions.proofs.NodeSignatures.{AreWithin, all_within, within_both, range_check_parts, range_check_within, effect_check_parts, effect_check_within, rule_for_is, rule_for_from, one_rule, sorts_natural, natural_sorts}
use Rattle.ioa_transitions.proofs.NodeVariables.{first_names, variables_left, values_equal}

-- a value by which a guard passes is true
truth_answer_true : (v : Data) → truth_answer (as_truth v) ≡ Ok tt → v ≡ truth true
truth_answer_true (number z) h = absurd (cc)
truth_answer_true (truth true) h = refl
truth_answer_true (truth false) h = absurd (cc)
truth_answer_true (constant k) h = absurd (cc)
truth_answer_true (tuple ds) h = absurd (cc)
truth_answer_true (sequence ds) h = absurd (cc)
truth_answer_true (finite_set ds) h = absurd (cc)
truth_answer_true (finite_map es) h = absurd (cc)

-- a guard passes exactly if it holds and its numbers lie within 64 bits
guard_parts : (g : Option CheckedTerm) (e : Bindings) → guard_answer g e ≡ Ok tt → AreWithin (numbers_met_by_guard g e) × GuardHolds g e
guard_parts None e h = (refl, tt)
guard_parts (Some t) e h = by_value (answer t e) refl h
  where
    by_value : (r : Result Data TermFault) → answer t e ≡ r → value_answer r ≡ Ok tt → AreWithin (numbers_met t e) × (value t e ≡ Some (truth true))
    by_value (Ok v) q h = range_check_parts (numbers_met t e) (value t e) (truth true) (q ∙ ap Ok (truth_answer_true v h))
    by_value (Err f) q h = absurd (cc)

guard_passes : (g : Option CheckedTerm) (e : Bindings) → AreWithin (numbers_met_by_guard g e) → GuardHolds g e → guard_answer g e ≡ Ok tt
guard_passes None e within holds = refl
guard_passes (Some t) e within holds = ap value_answer (range_check_within (numbers_met t e) (value t e) (truth true) within holds)

-- what a transition leaves
record TransitionParts (n : ℕ) (t : CheckedTransition) (l : Left) (k : Taken) : Type 0 where
  guard : GuardHolds t.pre l.bindings
  reached : Left
  effect : after t.effect l ≡ Ok reached
  values : k.values ≡ take n (map (λ c. c.1) reached.bindings)
  source : k.source ≡ reached.source
  within : AreWithin (numbers_met_by_guard t.pre l.bindings ++ numbers_met_by t.effect l)

transition_parts : (n : ℕ) (t : CheckedTransition) (l : Left) (k : Taken) → transition_answer n t l ≡ Ok k → TransitionParts n t l k
transition_parts n t l k h = by_guard (guard_answer t.pre l.bindings) refl h
  where
    by_effect : AreWithin (numbers_met_by_guard t.pre l.bindings) × GuardHolds t.pre l.bindings → (r : Result Left EffectFault) → answer_by t.effect l ≡ r → effect_answer n r ≡ Ok k → TransitionParts n t l k
    by_effect g (Ok m) q h =
        let p : AreWithin (numbers_met_by t.effect l) × (after t.effect l ≡ Ok m) = effect_check_parts (numbers_met_by t.effect l) (after t.effect l) m q in
        let same : taken (take n (map (λ c. c.1) m.bindings)) m.source ≡ k = cc in
        record {
          guard = g.1;
          reached = m;
          effect = p.1;
          values = sym (ap (λ (x : Taken). x.values) same);
          source = sym (ap (λ (x : Taken). x.source) same);
          within = all_within (numbers_met_by_guard t.pre l.bindings) (numbers_met_by t.effect l) g.0 p.0;
        }
    by_effect g (Err f) q h = absurd (cc)

    by_guard : (r : Result (Unit {0}) StepFault) → guard_answer t.pre l.bindings ≡ r → and_then r (λ _. effect_answer n (answer_by t.effect l)) ≡ Ok k → TransitionParts n t l k
    by_guard (Ok u) q h = by_effect (guard_parts t.pre l.bindings q) (answer_by t.effect l) refl h
    by_guard (Err f) q h = absurd (cc)

transition_left : (n : ℕ) (t : CheckedTransition) (l m : Left) → AreWithin (numbers_met_by_guard t.pre l.bindings ++ numbers_met_by t.effect l) → GuardHolds t.pre l.bindings → after t.effect l ≡ Ok m → transition_answer n t l ≡ Ok (taken (take n (map (λ c. c.1) m.bindings)) m.source)
transition_left n t l m within holds effect =
    let p : AreWithin (numbers_met_by_guard t.pre l.bindings) × AreWithin (numbers_met_by t.effect l) = within_both (numbers_met_by_guard t.pre l.bindings) (numbers_met_by t.effect l) within in
    ap (λ r. and_then r (λ _. effect_answer n (answer_by t.effect l))) (guard_passes t.pre l.bindings p.0 holds)
    ∙ ap (effect_answer n) (effect_check_within (numbers_met_by t.effect l) (after t.effect l) m p.1 effect)

-- what a rule meets whose entry's condition reads e, and whose guard and effect begin with l
abbrev numbers_met_by_step : PlainRule → Bindings → Left → List Data
numbers_met_by_step r e l =
    numbers_met_by_guard r.entry.condition e ++ (numbers_met_by_guard r.transition.pre l.bindings ++ numbers_met_by r.transition.effect l)

-- what it leaves
record StepParts (n : ℕ) (r : PlainRule) (args : List Data) (e : Bindings) (l : Left) (k : Taken) : Type 0 where
  natural : are_natural r.entry.parameters args ≡ true
  condition : GuardHolds r.entry.condition e
  transition : TransitionParts n r.transition l k
  within : AreWithin (numbers_met_by_step r e l)

abbrev after_naturals : ℕ → PlainRule → Bindings → Left → Bool → Result Taken StepFault
after_naturals n r e l natural =
    and_then (if natural then Ok (tt {0}) else Err Undefined) (λ _. and_then (guard_answer r.entry.condition e) (λ _. transition_answer n r.transition l))

step_parts : (n : ℕ) (r : PlainRule) (args : List Data) (e : Bindings) (l : Left) (k : Taken) → step_answer n r args e l ≡ Ok k → StepParts n r args e l k
step_parts n r args e l k h = by_naturals (are_natural r.entry.parameters args) refl h
  where
    by_condition : are_natural r.entry.parameters args ≡ true → (x : Result (Unit {0}) StepFault) → guard_answer r.entry.condition e ≡ x → and_then x (λ _. transition_answer n r.transition l) ≡ Ok k → StepParts n r args e l k
    by_condition natural (Ok u) q h =
        let g : AreWithin (numbers_met_by_guard r.entry.condition e) × GuardHolds r.entry.condition e = guard_parts r.entry.condition e q in
        let p : TransitionParts n r.transition l k = transition_parts n r.transition l k h in
        record { natural = natural; condition = g.1; transition = p; within = all_within (numbers_met_by_guard r.entry.condition e) (numbers_met_by_guard r.transition.pre l.bindings ++ numbers_met_by r.transition.effect l) g.0 p.within }
    by_condition natural (Err f) q h = absurd (cc)

    by_naturals : (x : Bool) → are_natural r.entry.parameters args ≡ x → after_naturals n r e l x ≡ Ok k → StepParts n r args e l k
    by_naturals true q h = by_condition q (guard_answer r.entry.condition e) refl h
    by_naturals false q h = absurd (cc)

step_left : (n : ℕ) (r : PlainRule) (args : List Data) (e : Bindings) (l m : Left) → AreWithin (numbers_met_by_step r e l) → are_natural r.entry.parameters args ≡ true → GuardHolds r.entry.condition e → GuardHolds r.transition.pre l.bindings → after r.transition.effect l ≡ Ok m → step_answer n r args e l ≡ Ok (taken (take n (map (λ c. c.1) m.bindings)) m.source)
step_left n r args e l m within natural condition guard effect =
    let p : AreWithin (numbers_met_by_guard r.entry.condition e) × AreWithin (numbers_met_by_guard r.transition.pre l.bindings ++ numbers_met_by r.transition.effect l) = within_both (numbers_met_by_guard r.entry.condition e) (numbers_met_by_guard r.transition.pre l.bindings ++ numbers_met_by r.transition.effect l) within in
    ap (after_naturals n r e l) natural
    ∙ ap (λ x. and_then x (λ _. transition_answer n r.transition l)) (guard_passes r.entry.condition e p.0 condition)
    ∙ transition_left n r.transition l m p.1 guard effect

-- what a rule leaves the variables
pub names_left : (c : NodeState) (r : PlainRule) (a : Action) (s : Source) (m : Left) → IsState c → after r.transition.effect (left (rule_bindings guard_or_effect r a c) s) ≡ Ok m →
    map (λ x. lookup (Word x) m.bindings) (variable_names c.program.automaton.variables) ≡ map Some (take (length c.variables) (map (λ b. b.1) m.bindings))
names_left c r a s m h effect =
    let ws = variable_names c.program.automaton.variables in
    let many : length ws ≡ length c.program.automaton.variables = length-map c.program.automaton.variables (λ v. v.declared.name) in
    let valued : length c.variables ≡ length ws = h.valued ∙ sym many in
    let before = first_names ws (parameter_names c.program.automaton.parameters ++ own_names r.entry.parameters) c.variables (c.program.arguments ++ own_values r.entry.parameters (action_arguments a)) c.program.automaton.constants valued in
    variables_left (length c.variables) ws m.bindings before.0 valued h.program.variables (after_names r.transition.effect (left (rule_bindings guard_or_effect r a c) s) m effect ∙ before.1)

-- the result at a node is a configuration to which its step leads, and what the step meets lies within 64 bits
pub is_node_step : (c : NodeState) (en : PlainEntry) (d : NodeState) → IsState c → redo_answer c en ≡ Ok d → IsNodeStep en c d × FitsNodeStep en c
unfolding redo_answer
is_node_step c en d state = by_rule (rule_for c.program en.action) refl
  where
    a : Action
    a = en.action

    begin : PlainRule → Left
    begin r = left (rule_bindings guard_or_effect r a c) (given en.chosen)

    with_all : Taken → Result NodeState StepFault
    with_all k = all_taken c.program k k.source

    by_source : (r : PlainRule) → AreWithin (numbers_met_by_parameters (given_bindings c.program.automaton c.program.arguments) r.entry.parameters) → HasRule c.program a r →
        (k : Taken) → StepParts (length c.variables) r (action_arguments a) (rule_bindings entry_condition r a c) (begin r) k → (s : Source) → k.source ≡ s → all_taken c.program k s ≡ Ok d → IsNodeStep en c d × FitsNodeStep en c
    by_source r met mine k p (given []) q h =
        let same_state : node_state c.program k.values ≡ d = cc in
        let t = p.transition in
        let within : AreWithin (numbers_met_by_rule r en c) = all_within (numbers_met_by_parameters (given_bindings c.program.automaton c.program.arguments) r.entry.parameters) (numbers_met_by_step r (rule_bindings entry_condition r a c) (begin r)) met p.within in (
          record {
            rule = r;
            mine = mine;
            sorts = natural_sorts (given_bindings c.program.automaton c.program.arguments) r.entry.parameters (action_arguments a) mine.action.arguments p.natural;
            condition = p.condition;
            guard = t.guard;
            reached = t.reached.bindings;
            effect = t.effect ∙ ap (λ (s : Source). Ok (left t.reached.bindings s)) (sym t.source ∙ q);
            variables = names_left c r a (given en.chosen) t.reached state t.effect ∙ ap (λ (us : List Data). map Some us) (sym t.values ∙ ap (λ (x : NodeState). x.variables) same_state);
            program = sym (ap (λ (x : NodeState). x.program) same_state);
          },
          λ s other. subst (λ (x : PlainRule). AreWithin (numbers_met_by_rule x en c)) (one_rule c.program a r s state.program mine other) within,
        )
    by_source r met mine k p (given (v ∷ vs)) q h = absurd (cc)
    by_source r met mine k p (yielded vs) q h = absurd (cc)

    by_values : (r : PlainRule) → AreWithin (numbers_met_by_parameters (given_bindings c.program.automaton c.program.arguments) r.entry.parameters) → HasRule c.program a r →
        (s : Result Taken StepFault) → rule_answer c a (given en.chosen) (Some r) ≡ s → and_then s with_all ≡ Ok d → IsNodeStep en c d × FitsNodeStep en c
    by_values r met mine (Ok k) e h = by_source r met mine k (step_parts (length c.variables) r (action_arguments a) (rule_bindings entry_condition r a c) (begin r) k e) k.source refl h
    by_values r met mine (Err f) e h = absurd (cc)

    by_rule : (o : Option PlainRule) → rule_for c.program a ≡ o → and_then (rule_answer c a (given en.chosen) o) with_all ≡ Ok d → IsNodeStep en c d × FitsNodeStep en c
    by_rule (Some r) q h = let p = rule_for_is c.program a r q in by_values r p.0 p.1 (rule_answer c a (given en.chosen) (Some r)) refl h
    by_rule None q h = absurd (cc)

-- and each such configuration is the result
pub node_answer_is : (c : NodeState) (en : PlainEntry) (d : NodeState) → IsState c → IsNodeStep en c d → FitsNodeStep en c → redo_answer c en ≡ Ok d
unfolding redo_answer
node_answer_is c en d state p fits =
    let within = within_both (numbers_met_by_parameters (given_bindings c.program.automaton c.program.arguments) p.rule.entry.parameters) (numbers_met_by_step p.rule (rule_bindings entry_condition p.rule en.action c) begin) (fits p.rule p.mine) in
    let values : take (length c.variables) (map (λ b. b.1) p.reached) ≡ d.variables = values_equal (take (length c.variables) (map (λ b. b.1) p.reached)) d.variables (sym (names_left c p.rule en.action (given en.chosen) (left p.reached (given [])) state p.effect) ∙ p.variables) in
    ap (λ o. and_then (rule_answer c en.action (given en.chosen) o) with_all) (rule_for_from c.program en.action p.rule state.program within.0 p.mine)
    ∙ ap (λ s. and_then s with_all) (step_left (length c.variables) p.rule (action_arguments en.action) (rule_bindings entry_condition p.rule en.action c) begin (left p.reached (given [])) within.1 (sorts_natural p.rule.entry.parameters (action_arguments en.action) p.sorts) p.condition p.guard p.effect)
    ∙ ap (λ (vs : List Data). Ok (node_state c.program vs)) values
    ∙ ap (λ q. Ok (node_state q d.variables)) (sym p.program)
  where
    begin : Left
    begin = left (rule_bindings guard_or_effect p.rule en.action c) (given en.chosen)

    with_all : Taken → Result NodeState StepFault
    with_all k = all_taken c.program k k.source

-- a node has one step by an entry
pub one_node_step : (en : PlainEntry) (c d e : NodeState) → IsState c → IsNodeStep en c d → IsNodeStep en c e → d ≡ e
one_node_step en c d e state p q =
    let rule : p.rule ≡ q.rule = one_rule c.program en.action p.rule q.rule state.program p.mine q.mine in
    let both : ◌≡◌ {A = Result Left Lack} (Ok (left p.reached (given []))) (Ok (left q.reached (given []))) = sym p.effect ∙ ap (λ (r : PlainRule). after r.transition.effect (left (rule_bindings guard_or_effect r en.action c) (given en.chosen))) rule ∙ q.effect in
    let same_left : p.reached ≡ q.reached = ap (λ (l : Left). l.bindings) (of_ok (left p.reached (given [])) (left q.reached (given [])) both) in
    let values : d.variables ≡ e.variables = values_equal d.variables e.variables (sym p.variables ∙ ap (λ (b : Bindings). map (λ x. lookup (Word x) b) (variable_names c.program.automaton.variables)) same_left ∙ q.variables) in
    ap (λ (vs : List Data). node_state d.program vs) values ∙ ap (λ x. node_state x e.variables) (p.program ∙ sym q.program)
  where
    of_ok : (x y : Left) → ◌≡◌ {A = Result Left Lack} (Ok x) (Ok y) → x ≡ y
    of_ok x y h = cc

-- a step of a node leads from a state to a state
pub state_after : (en : PlainEntry) (c d : NodeState) → IsState c → IsNodeStep en c d → IsState d
state_after en c d state p =
    let named : length (variable_names c.program.automaton.variables) ≡ length c.program.automaton.variables = length-map c.program.automaton.variables (λ v. v.declared.name) in
    let many : length d.variables ≡ length c.program.automaton.variables =
    sym (length-map d.variables Some) ∙ ap length (sym p.variables) ∙ length-map (variable_names c.program.automaton.variables) (λ x. lookup (Word x) p.reached) ∙ named in
    record { program = rw p.program state.program; valued = rw p.program many }

-- what was computed behind a test that passes
behind_test : {A : Type 0} (r : Result (Unit {0}) StepFault) (x y : Result A StepFault) (k j : A) → and_then r (λ _. x) ≡ Ok k → (x ≡ Ok k → y ≡ Ok j) → and_then r (λ _. y) ≡ Ok j
behind_test (Ok u) x y k j h further = further h
behind_test (Err f) x y k j h further = absurd (cc)

-- what an effect chose leads to the same if it is given
effect_again : (n : ℕ) (ss : List CheckedStatement) (b : Bindings) (k : Taken) → effect_answer n (answer_by ss (left b (yielded []))) ≡ Ok k → effect_answer n (answer_by ss (left b (given (made_values k.source)))) ≡ Ok (taken k.values (given []))
effect_again n ss b k h = by_result (answer_by ss (left b (yielded []))) refl h
  where
    Again : Taken → Type 0
    Again k = effect_answer n (answer_by ss (left b (given (made_values k.source)))) ≡ Ok (taken k.values (given []))

    by_result : (r : Result Left EffectFault) → answer_by ss (left b (yielded [])) ≡ r → effect_answer n r ≡ Ok k → Again k
    by_result (Ok l) q h =
        let again = redone_by ss b l q in
        let same : taken (take n (map (λ (c : Name × Data). c.1) l.bindings)) l.source ≡ k = cc in
        subst Again same (ap (λ (s : Source). effect_answer n (answer_by ss (left b (given (made_values s))))) again.1 ∙ ap (effect_answer n) again.2)
    by_result (Err f) q h = absurd (cc)

values_again : (c : NodeState) (a : Action) (o : Option PlainRule) (k : Taken) → rule_answer c a (yielded []) o ≡ Ok k → rule_answer c a (given (made_values k.source)) o ≡ Ok (taken k.values (given []))
values_again c a None k h = absurd (cc)
values_again c a (Some r) k h =
    behind_test (naturals_answer r.entry.parameters (action_arguments a)) _ _ k (taken k.values (given [])) h
    (λ h. behind_test (guard_answer r.entry.condition (rule_bindings entry_condition r a c)) _ _ k (taken k.values (given [])) h
    (λ h. behind_test (guard_answer r.transition.pre (rule_bindings guard_or_effect r a c)) _ _ k (taken k.values (given [])) h
    (λ h. effect_again (length c.variables) r.transition.effect (rule_bindings guard_or_effect r a c) k h)))

-- what is picked for an action is an entry of it, and leads to the same if it is taken again
pub picked_again : (c : NodeState) (a : Action) (en : PlainEntry) (d : NodeState) → pick_answer c a ≡ Ok (en, d) → (en.action ≡ a) × (redo_answer c en ≡ Ok d)
unfolding pick_answer redo_answer
picked_again c a en d h = by_values (values_answer c a (yielded [])) refl h
  where
    IsPicked : PlainEntry × NodeState → Type 0
    IsPicked t = (t.0.action ≡ a) × (and_then (values_answer c t.0.action (given t.0.chosen)) (λ k. all_taken c.program k k.source) ≡ Ok t.1)

    by_values : (r : Result Taken StepFault) → values_answer c a (yielded []) ≡ r → and_then {B = PlainEntry × NodeState} r (λ t. Ok (entry a (made_values t.source), node_state c.program t.values)) ≡ Ok (en, d) → IsPicked (en, d)
    by_values (Ok k) q h =
        let again : values_answer c a (given (made_values k.source)) ≡ Ok (taken k.values (given [])) = values_again c a (rule_for c.program a) k q in
        let same : ◌≡◌ {A = PlainEntry × NodeState} (entry a (made_values k.source), node_state c.program k.values) (en, d) = of_ok (entry a (made_values k.source), node_state c.program k.values) (en, d) h in
        subst IsPicked same (refl, ap (λ r. and_then r (λ k. all_taken c.program k k.source)) again)
      where
        of_ok : (x y : PlainEntry × NodeState) → ◌≡◌ {A = Result (PlainEntry × NodeState) StepFault} (Ok x) (Ok y) → x ≡ y
        of_ok x y h = cc
    by_values (Err f) q h = absurd (cc)

-- a node's step keeps its program
pub program-redo_answer : (c : NodeState) (en : PlainEntry) (d : NodeState) → redo_answer c en ≡ Ok d → d.program ≡ c.program
unfolding redo_answer
program-redo_answer c en d h = kept (values_answer c en.action (given en.chosen)) h
  where
    by_source : (k : Taken) (s : Source) → all_taken c.program k s ≡ Ok d → d.program ≡ c.program
    by_source k (given []) e = let same_state : node_state c.program k.values ≡ d = cc in ap (λ (s : NodeState). s.program) (sym same_state)
    by_source k (given (v ∷ vs)) e = absurd (cc)
    by_source k (yielded vs) e = absurd (cc)

    kept : (r : Result Taken StepFault) → and_then r (λ k. all_taken c.program k k.source) ≡ Ok d → d.program ≡ c.program
    kept (Ok k) e = by_source k k.source e
    kept (Err f) e = absurd (cc)
