-- An argument of an action that is another value than the `const` of its parameter (profile).
use Rattle.std.specs.Prelude.{◌≡◌, ◌≢◌, ℕ, ◌+◌, if◌then◌else◌, List, [], ◌∷◌, length, slice_get}
use Rattle.std.specs.Prelude.{Option, Some, None, Result, Ok, Err}
use Rattle.std.specs.Option.{option_or}
use Rattle.ioa_values.specs.Data.{Data}
use Rattle.ioa_values.specs.DataOrder.{same}
use Rattle.ioa_operators.specs.declared.fault.TermFault.{TermFault}
use Rattle.ioa_terms.specs.Bindings.{Bindings}
use Rattle.ioa_terms.specs.Meaning.{answer}
use Rattle.ioa_actions.specs.ActionParts.{action_arguments, action_name}
use Rattle.ioa_actions.specs.declared.action.Action.{Action}
use Rattle.ioa_source.specs.PlainText.{const, named}
use Rattle.ioa_source.specs.Sides.{CheckedParameter, CheckedTerm}
use Rattle.ioa_system.specs.InView.{given_bindings}
use Rattle.ioa_system.specs.Parts.{PlainRule, rule_named}
use Rattle.ioa_compose.specs.declared.configuration.Conf.{Conf}
use Rattle.ioa_compose.specs.declared.configuration.Conf.TheVariants as conf
use Rattle.ioa_transitions.specs.NodeState.{NodeState}
use Rattle.ioa_reasons.specs.declared.other_const.OtherConst.{OtherConst}

-- the argument at a position with the value of its `const`, if that is another one
abbrev pub unless_same : ℕ → Data → Data → Option OtherConst
unless_same k u v = if same u v then None else Some (record { position = k; argument = v; constant = u })

-- the same by the answer of the `const`
abbrev pub other_beside : Result Data TermFault → ℕ → Data → Option OtherConst
other_beside (Ok u) k v = unless_same k u v
other_beside (Err f) k v = None

-- the same by the parameter, if constants read these bindings
abbrev pub other_at : Bindings → ℕ → CheckedParameter → Data → Option OtherConst
other_at b k (const t) v = other_beside (answer t b) k v
other_at b k (named d) v = None

-- the first of arguments, each beside its parameter and counted from k, that is another value than its `const`
abbrev pub first_other : Bindings → ℕ → List CheckedParameter → List Data → Option OtherConst
first_other b k [] vs = None
first_other b k (p ∷ ps) [] = None
first_other b k (p ∷ ps) (v ∷ vs) = option_or (other_at b k p v) (first_other b (k + 1) ps vs)

-- among parameters, each beside its argument and counted from k, a `const` stands at a position whose value is this one,
-- and the argument there is another one
pub record IsUnlike (b : Bindings) (k : ℕ) (ps : List CheckedParameter) (vs : List Data) (o : OtherConst) : Type 0 where
  pub before : ℕ
  pub position : o.position ≡ before + k
  pub term : CheckedTerm
  pub parameter : slice_get ps before ≡ Some (const term)
  pub value : answer term b ≡ Ok o.constant
  pub argument : slice_get vs before ≡ Some o.argument
  pub other : o.constant ≢ o.argument

-- there are as many arguments as parameters, and this is the first one that is another value than its `const`
pub record IsFirstOther (b : Bindings) (ps : List CheckedParameter) (vs : List Data) (o : OtherConst) : Type 0 where
  pub many : length ps ≡ length vs
  pub first : first_other b 1 ps vs ≡ Some o

-- a node has a rule of an action's name and with as many parameters as the action has arguments, of which this is the
-- first one that is another value than its `const`: the `const` stands at its position, and has that value at the node
pub record IsOtherConst (there : Option Conf) (a : Action) (o : OtherConst) : Type 0 where
  pub state : NodeState
  pub is : there ≡ Some (conf.Node state)
  pub rule : PlainRule
  pub found : rule_named (action_name a) state.program.automaton.rules ≡ Some rule
  pub first : IsFirstOther (given_bindings state.program.automaton state.program.arguments) rule.entry.parameters
      (action_arguments a) o
  pub unlike : IsUnlike (given_bindings state.program.automaton state.program.arguments) 1 rule.entry.parameters
      (action_arguments a) o
