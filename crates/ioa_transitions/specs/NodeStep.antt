-- Steps of a node's automaton, over numbers without bound (Lynch 8.1).
use Rattle.std.specs.Prelude.{◌≡◌, ◌≢◌, ◌⊎◌, true, List, [], ◌∷◌, ◌++◌, map, Option, Some, None, Ok}
use Rattle.std.specs.List.{AllZip, Contains, list_all}
use Rattle.ioa_values.specs.Data.{Data, truth, is_within}
use Rattle.ioa_operators.specs.Shapes.{has_shape, wide_shape}
use Rattle.ioa_terms.specs.declared.name.Name.TheVariants.{Word}
use Rattle.ioa_terms.specs.declared.tree.Kind.{Kind}
use Rattle.ioa_terms.specs.declared.tree.Kind.TheVariants.{Input, Output, Internal}
use Rattle.ioa_terms.specs.Bindings.{Bindings, lookup}
use Rattle.ioa_terms.specs.Meaning.{value, numbers_met}
use Rattle.ioa_terms.specs.Choices.{left, given}
use Rattle.ioa_terms.specs.Performance.{after, numbers_met_by}
use Rattle.ioa_transitions.specs.Entries.{PlainEntry}
use Rattle.ioa_actions.specs.ActionParts.{send_name, receive_name, action_name, action_arguments}
use Rattle.ioa_actions.specs.declared.action.Action.{Action}
use Rattle.ioa_actions.specs.declared.action.Action.TheVariants.{Send, Receive, Local, Stimulus}
use Rattle.ioa_source.specs.PlainText.{const, named}
use Rattle.ioa_source.specs.Sides.{CheckedEntry, CheckedParameter, CheckedTerm}
use Rattle.ioa_system.specs.Declarations.{DeclaresOnce}
use Rattle.ioa_system.specs.InView.{Site, entry_condition, guard_or_effect, bindings_at, given_bindings, variable_names}
use Rattle.ioa_system.specs.Parts.{Parts, PlainRule}
use Rattle.ioa_transitions.specs.NodeState.{NodeState, IsValued}

-- a state of a node: its program declares each thing once, and each state variable has a value
pub record IsState (c : NodeState) : Type 0 where
  pub program : DeclaresOnce c.program
  pub valued : IsValued c

-- an action is of the kind of an entry (profile): a send is the output `send`, a receive the input `receive`, a local
-- action an internal action or another output, a stimulus another input
abbrev pub IsOfKind : Action → Kind → Type 0
IsOfKind (Send m i j) k = k ≡ Output
IsOfKind (Receive m i j) k = k ≡ Input
IsOfKind (Local a) k = (k ≡ Internal) ⊎ (k ≡ Output) × (a.name ≢ send_name)
IsOfKind (Stimulus a) k = (k ≡ Input) × (a.name ≢ receive_name)

-- a parameter takes a value, if constants read these bindings: a constant takes its own value, a name each value of its
-- shape, and a negative number for a Nat
abbrev pub TakesArgument : Bindings → CheckedParameter → Data → Type 0
TakesArgument b (const t) v = value t b ≡ Some v
TakesArgument b (named d) v = has_shape (wide_shape d.shape) v ≡ true

-- an action is one of an entry's, if constants read these bindings: it has the entry's name and kind, and an argument
-- for each parameter, which takes it
pub record IsActionOf (b : Bindings) (a : Action) (e : CheckedEntry) : Type 0 where
  pub name : e.name ≡ action_name a
  pub kind : IsOfKind a e.kind
  pub arguments : AllZip (TakesArgument b) e.parameters (action_arguments a)

-- a rule of a program has an action: its entry is one of the automaton's, and the action is one of the entry's
pub record HasRule (p : Parts) (a : Action) (r : PlainRule) : Type 0 where
  pub present : Contains p.automaton.rules r
  pub action : IsActionOf (given_bindings p.automaton p.arguments) a r.entry

-- an argument is of a parameter's sort: it holds no negative number where the sort says Nat
abbrev pub IsOfSort : CheckedParameter → Data → Type 0
IsOfSort (const t) v = Unit {0}
IsOfSort (named d) v = has_shape d.shape v ≡ true

-- the argument of a parameter that has a name of its own
abbrev pub own_value : CheckedParameter → Data → List Data
own_value (const t) v = []
own_value (named d) v = v ∷ []

-- the arguments that have names of their own
abbrev pub own_values : List CheckedParameter → List Data → List Data
own_values [] vs = []
own_values (p ∷ more) [] = []
own_values (p ∷ more) (v ∷ vs) = own_value p v ++ own_values more vs

-- what a term of a rule reads at a site when a node takes an action: of the state variables, of the automaton's
-- parameters and of the entry's own ones those that are in view there, and the text's constants
abbrev pub rule_bindings : Site → PlainRule → Action → NodeState → Bindings
rule_bindings site r a c =
    bindings_at site c.program.automaton c.program.arguments c.variables r.entry.parameters
    (own_values r.entry.parameters (action_arguments a))

-- a guard or a condition holds: there is none, or its value is true
abbrev pub GuardHolds : Option CheckedTerm → Bindings → Type 0
GuardHolds None e = Unit {0}
GuardHolds (Some t) e = value t e ≡ Some (truth true)

-- a step of a node from one configuration to another (Lynch 8.1): a rule of the program has the action, each argument
-- is of its sort, the entry's condition and the guard hold, the effect chooses the values of the entry, in order, and
-- no others, each state variable has by its name the value that the effect leaves, and the program stays
pub record IsNodeStep (e : PlainEntry) (c d : NodeState) : Type 0 where
  pub rule : PlainRule
  pub mine : HasRule c.program e.action rule
  pub sorts : AllZip IsOfSort rule.entry.parameters (action_arguments e.action)
  pub condition : GuardHolds rule.entry.condition (rule_bindings entry_condition rule e.action c)
  pub guard : GuardHolds rule.transition.pre (rule_bindings guard_or_effect rule e.action c)
  pub reached : Bindings
  pub effect : after rule.transition.effect (left (rule_bindings guard_or_effect rule e.action c) (given e.chosen))
      ≡ Ok (left reached (given []))
  pub variables : map (λ x. lookup (Word x) reached) (variable_names c.program.automaton.variables)
      ≡ map Some d.variables
  pub program : d.program ≡ c.program

-- the results that a parameter meets, if constants read these bindings
abbrev pub numbers_met_by_parameter : Bindings → CheckedParameter → List Data
numbers_met_by_parameter b (const t) = numbers_met t b
numbers_met_by_parameter b (named d) = []

-- the results that parameters meet, one after another
abbrev pub numbers_met_by_parameters : Bindings → List CheckedParameter → List Data
numbers_met_by_parameters b [] = []
numbers_met_by_parameters b (p ∷ more) = numbers_met_by_parameter b p ++ numbers_met_by_parameters b more

-- the results that a guard or a condition meets
abbrev pub numbers_met_by_guard : Option CheckedTerm → Bindings → List Data
numbers_met_by_guard None e = []
numbers_met_by_guard (Some t) e = numbers_met t e

-- the results that a rule meets by an action at a node: the constants of its entry, the entry's condition, the guard
-- and the effect, one after another
abbrev pub numbers_met_by_rule : PlainRule → PlainEntry → NodeState → List Data
numbers_met_by_rule r e c =
    numbers_met_by_parameters (given_bindings c.program.automaton c.program.arguments) r.entry.parameters
    ++ (numbers_met_by_guard r.entry.condition (rule_bindings entry_condition r e.action c)
    ++ (numbers_met_by_guard r.transition.pre (rule_bindings guard_or_effect r e.action c)
    ++ numbers_met_by r.transition.effect (left (rule_bindings guard_or_effect r e.action c) (given e.chosen))))

-- every number that a rule of an action meets lies within 64 bits (profile)
abbrev pub FitsNodeStep : PlainEntry → NodeState → Type 0
FitsNodeStep e c =
    (r : PlainRule) → HasRule c.program e.action r → list_all is_within (numbers_met_by_rule r e c) ≡ true
