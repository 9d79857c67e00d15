-- An argument of an action that is not of the sort of its parameter (profile).
use Rattle.std.specs.Prelude.{◌≡◌, ℕ, if◌then◌else◌, List, [], ◌∷◌, Option, Some, None}
use Rattle.std.specs.Option.{option_or}
use Rattle.ioa_values.specs.Data.{Data}
use Rattle.ioa_operators.specs.Shapes.{has_shape}
use Rattle.ioa_actions.specs.ActionParts.{action_arguments, action_name}
use Rattle.ioa_actions.specs.declared.action.Action.{Action}
use Rattle.ioa_source.specs.PlainText.{const, named}
use Rattle.ioa_source.specs.Sides.{CheckedParameter}
use Rattle.ioa_system.specs.Parts.{PlainRule, rule_named}
use Rattle.ioa_compose.specs.declared.configuration.Conf.{Conf}
use Rattle.ioa_compose.specs.declared.configuration.Conf.TheVariants as conf
use Rattle.ioa_transitions.specs.NodeState.{NodeState}

-- the name of a parameter and its argument, if that is not of the parameter's sort
abbrev pub unfit : CheckedParameter → Data → Option (List ℕ × Data)
unfit (const t) v = None
unfit (named d) v = if has_shape d.shape v then None else Some (d.name, v)

-- the same of the first of parameters, each beside its argument
abbrev pub first_unfit : List CheckedParameter → List Data → Option (List ℕ × Data)
first_unfit [] vs = None
first_unfit (p ∷ ps) [] = None
first_unfit (p ∷ ps) (v ∷ vs) = option_or (unfit p v) (first_unfit ps vs)

-- a node takes an action by a rule whose parameter of this name has this argument, the first one not of its sort
pub record IsUnfit (there : Option Conf) (a : Action) (w : List ℕ) (v : Data) : Type 0 where
  pub state : NodeState
  pub is : there ≡ Some (conf.Node state)
  pub rule : PlainRule
  pub found : rule_named (action_name a) state.program.automaton.rules ≡ Some rule
  pub unfit : first_unfit rule.entry.parameters (action_arguments a) ≡ Some (w, v)
