-- What the runtime returns for an action at a node (profile). The steps of a node are in `NodeStep`.
use Rattle.std.specs.Prelude.{ℕ, Bool, true, false, not, ◌&&◌, if◌then◌else◌, Option, Some, None, Result, Ok, Err}
use Rattle.std.specs.Prelude.{List, [], ◌∷◌, map, length, take, find}
use Rattle.ioa_values.specs.Data.{Data, as_truth}
use Rattle.ioa_values.specs.Outcome.{and_then}
use Rattle.ioa_values.specs.DataOrder.{same}
use Rattle.ioa_terms.specs.Bindings.{Bindings, same_word}
use Rattle.ioa_terms.specs.Meaning.{answer}
use Rattle.ioa_terms.specs.Performance.{answer_by}
use Rattle.ioa_terms.specs.Choices.{Source, made_values, given, yielded, Left, left}
use Rattle.ioa_terms.specs.declared.choices.EffectFault.{EffectFault}
use Rattle.ioa_terms.specs.declared.choices.EffectFault.TheVariants as effect
use Rattle.ioa_transitions.specs.Entries.{PlainEntry, entry}
use Rattle.ioa_terms.specs.declared.tree.Kind.{Kind}
use Rattle.ioa_terms.specs.declared.tree.Kind.TheVariants.{Input, Output, Internal}
use Rattle.ioa_actions.specs.ActionParts.{send_name, receive_name, action_name, action_arguments}
use Rattle.ioa_actions.specs.declared.action.Action.{Action}
use Rattle.ioa_actions.specs.declared.action.Action.TheVariants.{Send, Receive, Local, Stimulus}
use Rattle.ioa_operators.specs.Shapes.{has_shape, wide_shape}
use Rattle.ioa_operators.specs.declared.fault.TermFault.{TermFault}
use Rattle.ioa_source.specs.PlainText.{const, named}
use Rattle.ioa_source.specs.Sides.{CheckedEntry, CheckedParameter, CheckedTerm, CheckedTransition}
use Rattle.ioa_system.specs.InView.{entry_condition, guard_or_effect, given_bindings}
use Rattle.ioa_system.specs.Parts.{Parts, PlainRule}
use Rattle.ioa_transitions.specs.NodeState.{NodeState, node_state}
use Rattle.ioa_transitions.specs.NodeStep.{rule_bindings}
use Rattle.ioa_actions.specs.StepFaults.{step_fault}
use Rattle.ioa_actions.specs.declared.fault.StepFault.{StepFault}
use Rattle.ioa_actions.specs.declared.fault.StepFault.TheVariants.{NotEnabled, NotMine, Undefined}
use Rattle.ioa_actions.specs.declared.fault.StepFault.TheVariants as step

-- whether an action's kind is that of an entry: a send is the output `send`, a receive the input `receive`, a local
-- action another output or an internal action, a stimulus another input (profile)
abbrev pub kind_agrees : Action → Kind → Bool
kind_agrees (Send m i j) Input = false
kind_agrees (Send m i j) Output = true
kind_agrees (Send m i j) Internal = false
kind_agrees (Receive m i j) Input = true
kind_agrees (Receive m i j) Output = false
kind_agrees (Receive m i j) Internal = false
kind_agrees (Local a) Input = false
kind_agrees (Local a) Output = not (same_word a.name send_name)
kind_agrees (Local a) Internal = true
kind_agrees (Stimulus a) Input = not (same_word a.name receive_name)
kind_agrees (Stimulus a) Output = false
kind_agrees (Stimulus a) Internal = false

-- whether a value is the one that a constant parameter has
abbrev pub constant_agrees : Result Data TermFault → Data → Bool
constant_agrees (Ok u) v = same u v
constant_agrees (Err f) v = false

-- whether a value is one that a parameter takes, if constants read these bindings: it is the constant, or it has the
-- shape; a negative number passes for a Nat here
abbrev pub parameter_agrees : Bindings → CheckedParameter → Data → Bool
parameter_agrees b (const t) v = constant_agrees (answer t b) v
parameter_agrees b (named d) v = has_shape (wide_shape d.shape) v

-- whether arguments are those of an entry's parameters: there are as many, and each parameter takes its own
abbrev pub arguments_agree : Bindings → List CheckedParameter → List Data → Bool
arguments_agree b [] [] = true
arguments_agree b [] (v ∷ vs) = false
arguments_agree b (p ∷ more) [] = false
arguments_agree b (p ∷ more) (v ∷ vs) = parameter_agrees b p v && arguments_agree b more vs

-- whether an argument holds no negative number where its sort says Nat
abbrev pub is_natural : CheckedParameter → Data → Bool
is_natural (const t) v = true
is_natural (named d) v = has_shape d.shape v

-- whether no argument holds one, each beside its parameter
abbrev pub are_natural : List CheckedParameter → List Data → Bool
are_natural [] vs = true
are_natural (p ∷ more) [] = true
are_natural (p ∷ more) (v ∷ vs) = is_natural p v && are_natural more vs

-- the test of arguments: a negative number has no value as a Nat
abbrev pub naturals_answer : List CheckedParameter → List Data → Result (Unit {0}) StepFault
naturals_answer ps vs = if are_natural ps vs then Ok tt else Err Undefined

-- whether an action is one of an entry's, if constants read these bindings
abbrev pub entry_agrees : Bindings → Action → CheckedEntry → Bool
entry_agrees b a e =
    same_word e.name (action_name a)
    && (kind_agrees a e.kind && arguments_agree b e.parameters (action_arguments a))

-- a guard passes if it is true
abbrev pub truth_answer : Option Bool → Result (Unit {0}) StepFault
truth_answer None = Err NotEnabled
truth_answer (Some true) = Ok tt
truth_answer (Some false) = Err NotEnabled

-- the test of a guard by its value: it passes if that is true
abbrev pub value_answer : Result Data TermFault → Result (Unit {0}) StepFault
value_answer (Err f) = Err (step_fault f)
value_answer (Ok v) = truth_answer (as_truth v)

-- the test of a guard: it passes if it is true, or if there is none
abbrev pub guard_answer : Option CheckedTerm → Bindings → Result (Unit {0}) StepFault
guard_answer None e = Ok tt
guard_answer (Some t) e = value_answer (answer t e)

-- an effect's fault, as a step's
abbrev pub effect_step_fault : EffectFault → StepFault
effect_step_fault effect.Undefined = step.Undefined
effect_step_fault effect.Range = step.Range
effect_step_fault effect.Memory = step.Memory
effect_step_fault effect.NoChoice = step.NoChoice

-- the values of the state variables after an effect, and where further choices would take theirs
pub record Taken : Type 0 where
  pub values : List Data
  pub source : Source

abbrev pub taken : List Data → Source → Taken
taken vs c = record { values = vs; source = c }

abbrev pub effect_answer : ℕ → Result Left EffectFault → Result Taken StepFault
effect_answer n (Ok l) = Ok (taken (take n (map (λ b. b.1) l.bindings)) l.source)
effect_answer n (Err f) = Err (effect_step_fault f)

-- the result of a transition over n state variables: their new values, or the first fault of guard and effect
abbrev pub transition_answer : ℕ → CheckedTransition → Left → Result Taken StepFault
transition_answer n t l = and_then (guard_answer t.pre l.bindings) (λ _. effect_answer n (answer_by t.effect l))

-- the result of a rule for these arguments, over n state variables: the first fault of the arguments, of the entry's
-- condition, which reads the first bindings, and of the guard and the effect, which read the second; or the new values
abbrev pub step_answer : ℕ → PlainRule → List Data → Bindings → Left → Result Taken StepFault
step_answer n r args e l =
    and_then (naturals_answer r.entry.parameters args)
    (λ _. and_then (guard_answer r.entry.condition e) (λ _. transition_answer n r.transition l))

-- the rule of an action at a node with this program: the first whose entry it is one of
abbrev pub rule_for : Parts → Action → Option PlainRule
rule_for p a = find (λ r. entry_agrees (given_bindings p.automaton p.arguments) a r.entry) p.automaton.rules

-- the values of a node's variables after an action, by the rule of that action, if choices take theirs from here
abbrev pub rule_answer : NodeState → Action → Source → Option PlainRule → Result Taken StepFault
rule_answer c a s None = Err NotMine
rule_answer c a s (Some r) =
    step_answer (length c.variables) r (action_arguments a)
    (rule_bindings entry_condition r a c) (left (rule_bindings guard_or_effect r a c) s)

-- the values of a node's variables after an action, or why the action is no step
abbrev pub values_answer : NodeState → Action → Source → Result Taken StepFault
values_answer c a s = rule_answer c a s (rule_for c.program a)

-- all values that were given were taken
abbrev pub all_taken : Parts → Taken → Source → Result NodeState StepFault
all_taken p t (given []) = Ok (node_state p t.values)
all_taken p t (given (v ∷ vs)) = Err step.NoChoice
all_taken p t (yielded vs) = Err step.NoChoice

-- the result of an entry at a node, which is taken again with the values that it has: the node's new configuration, or
-- why there is none
unfoldable pub redo_answer : NodeState → PlainEntry → Result NodeState StepFault
redo_answer c e = and_then (values_answer c e.action (given e.chosen)) (λ t. all_taken c.program t t.source)

-- the result of an action at a node, whose effect chooses by its own terms: the entry of its step, and the node's new
-- configuration
unfoldable pub pick_answer : NodeState → Action → Result (PlainEntry × NodeState) StepFault
pick_answer c a =
    and_then (values_answer c a (yielded []))
    (λ t. Ok (entry a (made_values t.source), node_state c.program t.values))
