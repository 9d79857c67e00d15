-- Why the step of a node meets a fault: the part of it at which it stops (profile).
use Rattle.std.specs.Prelude.{◌≡◌, List, Option, Some}
use Rattle.ioa_terms.specs.Bindings.{Bindings, names_of}
use Rattle.ioa_terms.specs.declared.name.Name.{Name}
use Rattle.ioa_actions.specs.ActionParts.{action_name}
use Rattle.ioa_actions.specs.declared.action.Action.{Action}
use Rattle.ioa_system.specs.InView.{entry_condition, guard_or_effect}
use Rattle.ioa_system.specs.Parts.{PlainRule, rule_named}
use Rattle.ioa_compose.specs.declared.configuration.Conf.{Conf}
use Rattle.ioa_compose.specs.declared.configuration.Conf.TheVariants as conf
use Rattle.ioa_transitions.specs.NodeState.{NodeState}
use Rattle.ioa_transitions.specs.NodeStep.{rule_bindings}
use Rattle.ioa_reasons.specs.PlainReasons.{PlainFault, PlainPlace, PlainStatementPlace, condition, guard, effect}
use Rattle.ioa_reasons.specs.Stopping.{HasNoValue, StopsAt}

-- a statement stops at a part at some time, when these names have values
abbrev pub StopsThen : List Name → PlainStatementPlace → PlainFault → Type 0
StopsThen names place f = (now : Bindings) × ((names_of now ≡ names) × StopsAt place now f)

-- a step stops at a part where it was asked: the condition reads the first bindings and the guard the second, and the
-- part has no value; a statement of the effect reads the same names as the guard, with the values that they have then
abbrev pub IsFaultAt : PlainPlace → Bindings → Bindings → PlainFault → Type 0
IsFaultAt condition e b f = HasNoValue e f
IsFaultAt guard e b f = HasNoValue b f
IsFaultAt (effect place) e b f = StopsThen (names_of b) place f

-- a node takes an action by a rule which stops there at this part
pub record IsFaulted (there : Option Conf) (a : Action) (place : PlainPlace) (f : PlainFault) : Type 0 where
  pub state : NodeState
  pub is : there ≡ Some (conf.Node state)
  pub rule : PlainRule
  pub named : rule_named (action_name a) state.program.automaton.rules ≡ Some rule
  pub fault : IsFaultAt place (rule_bindings entry_condition rule a state)
      (rule_bindings guard_or_effect rule a state) f
