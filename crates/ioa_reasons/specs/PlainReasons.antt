-- Why an action was not enabled, and where a step or a turn stopped (profile).
use Rattle.std.specs.Prelude.{ℕ, List, map, Option}
use Rattle.std.specs.Option.{option_copied}
use Rattle.ioa_actions.specs.declared.component.Component.{Component}
use Rattle.ioa_channels.specs.Fronts.{front_item}
use Rattle.ioa_channels.specs.declared.queue.Item.{Item}
use Rattle.ioa_source.specs.Sides.{CheckedTerm}
use Rattle.ioa_operators.specs.declared.shape.Shape.{Shape}
use Rattle.ioa_terms.specs.PlainTerm.{PlainChoice, PlainFiring, PlainTarget}
use Rattle.ioa_terms.specs.View.{choice_of, firing_of, target_of, term_of}
use Rattle.ioa_terms.specs.declared.callee.Callee.{Callee}
use Rattle.ioa_terms.specs.declared.name.Name.{Name}
use Rattle.ioa_values.specs.Data.{Data}
use Rattle.ioa_reasons.specs.declared.reason.Fault.{Fault}
use Rattle.ioa_reasons.specs.declared.reason.NamedValue.{NamedValue}
use Rattle.ioa_reasons.specs.declared.reason.Place.{Place}
use Rattle.ioa_reasons.specs.declared.reason.Place.TheVariants as place
use Rattle.ioa_reasons.specs.declared.reason.Reason.{Reason}
use Rattle.ioa_reasons.specs.declared.reason.Reason.TheVariants as reason
use Rattle.ioa_reasons.specs.declared.reason.StatementPlace.{StatementPlace}
use Rattle.ioa_reasons.specs.declared.reason.StatementPlace.TheVariants as statement
use Rattle.ioa_reasons.specs.declared.reason.Test.{Test}

-- why an action was not enabled: there is nothing in the queue, another item is its first, its message is not in the
-- queue, the node's step is not enabled, or this part of a test of the node is false, whose names have these values
pub data PlainReason : Type 0 where
  empty : Component → PlainReason
  first : Component → Item → PlainReason
  absent : Component → PlainReason
  node : PlainReason
  falsified : Test → CheckedTerm → List (Name × Data) → PlainReason

-- a name and its value
abbrev pub named_value : NamedValue → Name × Data
named_value n = (n.name.now, n.value)

abbrev pub reason_of : Reason → PlainReason
reason_of (reason.Empty k) = empty k
reason_of (reason.First k f) = first k (front_item f)
reason_of (reason.Absent k) = absent k
reason_of reason.Node = node
reason_of (reason.False test part values) = falsified test (term_of part.now) (map named_value values.now)

-- a statement in which a term is written: an assignment, an `if` and a `while` with this test, a `fire`, and a choice,
-- either its target with the term that yields the value, or its condition
pub data PlainStatementPlace : Type 0 where
  assigned : PlainTarget ℕ Callee Shape → CheckedTerm → PlainStatementPlace
  tested : CheckedTerm → PlainStatementPlace
  repeated : CheckedTerm → PlainStatementPlace
  fired : PlainFiring ℕ Callee Shape → PlainStatementPlace
  chosen : PlainChoice ℕ Callee Shape → PlainStatementPlace
  allowed : PlainChoice ℕ Callee Shape → PlainStatementPlace

abbrev pub statement_place_of : StatementPlace → PlainStatementPlace
statement_place_of (statement.Assigned target term) = assigned (target_of target.now) (term_of term.now)
statement_place_of (statement.Tested test) = tested (term_of test.now)
statement_place_of (statement.Repeated test) = repeated (term_of test.now)
statement_place_of (statement.Fired firing) = fired (firing_of firing.now)
statement_place_of (statement.Chosen choice) = chosen (choice_of choice.now)
statement_place_of (statement.Allowed choice) = allowed (choice_of choice.now)

-- where a term of a step is written: in the condition of its entry, in its guard, or in a statement of its effect
pub data PlainPlace : Type 0 where
  condition : PlainPlace
  guard : PlainPlace
  effect : PlainStatementPlace → PlainPlace

abbrev pub place_of : Place → PlainPlace
place_of place.Condition = condition
place_of place.Guard = guard
place_of (place.Effect s) = effect (statement_place_of s)

-- a part of a term at which a step or a turn stops, the values of the names that it reads, and its own value, if it has
-- one: that is not of the sort of its place, or it is false in the condition of a choice
pub record PlainFault : Type 0 where
  pub part : CheckedTerm
  pub values : List (Name × Data)
  pub value : Option Data

abbrev pub fault_of : Fault → PlainFault
fault_of f = record { part = term_of f.part.now; values = map named_value f.values.now; value = option_copied f.value }
