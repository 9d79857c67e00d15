-- Why a node does not let an action pass: the part of the entry's condition or of the guard that is false (profile).
use Rattle.std.specs.Prelude.{◌≡◌, ℕ, Bool, true, false, if◌then◌else◌, List, [], ◌∷◌, ◌++◌}
use Rattle.std.specs.Prelude.{Option, Some, None, Result, Ok, Err}
use Rattle.std.specs.List.{list_any}
use Rattle.std.specs.Option.{option_map, option_or}
use Rattle.ioa_values.specs.Data.{Data, truth}
use Rattle.ioa_values.specs.DataOrder.{same}
use Rattle.ioa_operators.specs.declared.fault.TermFault.{TermFault}
use Rattle.ioa_operators.specs.declared.operator.BinaryOperator.{BinaryOperator}
use Rattle.ioa_operators.specs.declared.operator.BinaryOperator.TheVariants.{And}
use Rattle.ioa_operators.specs.declared.shape.Shape.{Shape}
use Rattle.ioa_terms.specs.Bindings.{Bindings, same_name}
use Rattle.ioa_terms.specs.Meaning.{answer}
use Rattle.ioa_terms.specs.PlainTerm as plain
use Rattle.ioa_terms.specs.PlainTerm.{PlainTerms, name, one, two, call, display, field, no_terms, term}
use Rattle.ioa_terms.specs.declared.callee.Callee.{Callee}
use Rattle.ioa_terms.specs.declared.name.Name.{Name}
use Rattle.ioa_actions.specs.ActionParts.{action_name}
use Rattle.ioa_actions.specs.declared.action.Action.{Action}
use Rattle.ioa_source.specs.Sides.{CheckedTerm}
use Rattle.ioa_system.specs.InView.{entry_condition, guard_or_effect}
use Rattle.ioa_system.specs.Parts.{PlainRule, rule_named}
use Rattle.ioa_compose.specs.declared.configuration.Conf.{Conf}
use Rattle.ioa_compose.specs.declared.configuration.Conf.TheVariants as conf
use Rattle.ioa_transitions.specs.NodeState.{NodeState}
use Rattle.ioa_transitions.specs.NodeStep.{rule_bindings}
use Rattle.ioa_reasons.specs.PlainReasons.{PlainReason, empty, first, absent, node, falsified}
use Rattle.ioa_reasons.specs.declared.reason.Test.{Test}
use Rattle.ioa_reasons.specs.declared.reason.Test.TheVariants.{Where, Guard}

-- whether an answer is the truth value `false`
abbrev pub is_false : Result Data TermFault → Bool
is_false (Ok v) = same v (truth false)
is_false (Err f) = false

-- whether an operator is `/\`
abbrev pub is_and : BinaryOperator → Bool
is_and And = true
is_and _ = false

-- a term, if it is false
abbrev pub if_false : CheckedTerm → Bindings → Option CheckedTerm
if_false t e = if is_false (answer t e) then Some t else None

-- the first part of a term that is false: those of `a /\ b` are the parts of a and then the parts of b, and any other
-- term is the one part of itself
abbrev pub false_part : CheckedTerm → Bindings → Option CheckedTerm
false_part (two op a b) e = if is_and op then option_or (false_part a e) (false_part b e) else if_false (two op a b) e
false_part t e = if_false t e

-- one more name with its value, unless the name is there or has none
abbrev pub and_value : Name → Result Data TermFault → List (Name × Data) → List (Name × Data)
and_value x (Ok v) vs = if list_any (λ n. same_name n.0 x) vs then vs else vs ++ (x, v) ∷ []
and_value x (Err f) vs = vs

abbrev mutual
  -- the names that a term reads, from left to right and each once, with their values, behind those that are there
  pub values_read : CheckedTerm → Bindings → List (Name × Data) → List (Name × Data)
  values_read (plain.number n) e vs = vs
  values_read (plain.truth b) e vs = vs
  values_read (name x at) e vs = and_value x (answer {C = Callee} (name x at) e) vs
  values_read (one op a) e vs = values_read a e vs
  values_read (two op a b) e vs = values_read b e (values_read a e vs)
  values_read (call w c ts) e vs = all_values_read ts e vs
  values_read (display form d ts) e vs = all_values_read ts e vs
  values_read (field a w d) e vs = values_read a e vs

  -- the same of terms, one after another
  pub all_values_read : PlainTerms ℕ Callee Shape → Bindings → List (Name × Data) → List (Name × Data)
  all_values_read no_terms e vs = vs
  all_values_read (term t more) e vs = all_values_read more e (values_read t e vs)

-- a part of a test that is false, and the values of the names that it reads
pub record FalsePart : Type 0 where
  pub test : Test
  pub part : CheckedTerm
  pub values : List (Name × Data)

abbrev pub false_by : Test → Bindings → CheckedTerm → FalsePart
false_by test e t = record { test = test; part = t; values = values_read t e [] }

-- the first false part of a test, if there is one
abbrev pub false_part_of : Test → Option CheckedTerm → Bindings → Option FalsePart
false_part_of test None e = None
false_part_of test (Some t) e = option_map (false_by test e) (false_part t e)

-- the first false part of the condition of a rule's entry, which reads the first bindings, or else that of the guard,
-- which reads the second
abbrev pub first_false : PlainRule → Bindings → Bindings → Option FalsePart
first_false r e b = option_or (false_part_of Where r.entry.condition e) (false_part_of Guard r.transition.pre b)

-- what a test reads: the condition the first bindings, the guard the second
abbrev pub read_by : Test → Bindings → Bindings → Bindings
read_by Where e b = e
read_by Guard e b = b

-- a node takes an action by a rule of which this is the first false part: it is false in what its test reads when the
-- node takes the action
pub record IsFalsified (there : Option Conf) (a : Action) (f : FalsePart) : Type 0 where
  pub state : NodeState
  pub is : there ≡ Some (conf.Node state)
  pub rule : PlainRule
  pub named : rule_named (action_name a) state.program.automaton.rules ≡ Some rule
  pub first : first_false rule (rule_bindings entry_condition rule a state) (rule_bindings guard_or_effect rule a state)
      ≡ Some f
  pub is_false : answer f.part
      (read_by f.test (rule_bindings entry_condition rule a state) (rule_bindings guard_or_effect rule a state))
      ≡ Ok (truth false)

-- a reason is true of the node that takes an action, if it names a test
abbrev pub IsNodeReason : Option Conf → Action → PlainReason → Type 0
IsNodeReason there a (empty k) = Unit {0}
IsNodeReason there a (first k x) = Unit {0}
IsNodeReason there a (absent k) = Unit {0}
IsNodeReason there a node = Unit {0}
IsNodeReason there a (falsified test t vs) = IsFalsified there a (record { test = test; part = t; values = vs })
