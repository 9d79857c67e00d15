-- A block that runs, as the code keeps it (view).
use Rattle.std.specs.Prelude.{ℕ, Bool, true, false, List, Option, Some, None}
use Rattle.ioa_values.specs.Data.{Data}
use Rattle.ioa_operators.specs.declared.shape.Shape.{Shape}
use Rattle.ioa_terms.specs.declared.callee.Callee.{Callee}
use Rattle.ioa_terms.specs.PlainTerm.{PlainStatements}
use Rattle.ioa_schedules.specs.declared.control.Control.{Control}
use Rattle.ioa_schedules.specs.declared.state.State.{State}
use Rattle.ioa_schedules.specs.States.{PlainState, plain_state, todo_in, values_in}

-- what is still to do (view)
abbrev pub todo_of : Control → PlainStatements ℕ Callee Shape
todo_of c = todo_in c.state

-- the values of the block's own variables (view)
abbrev pub values_of : Control → List Data
values_of c = values_in c.state

-- the arguments that are kept (view): those of the `fire` at which the last turn ended, if it ended at one
abbrev pub arguments_of : Control → List Data
arguments_of c = c.arguments.items

-- one of two states (view): the copy, if it was copied
abbrev pub state_by : Bool → Control → State
state_by true c = c.copy
state_by false c = c.state

-- where a block is put back to after a fault (view): its copy, if the turn took statements
abbrev pub state_before : Control → State
state_before c = state_by c.is_moved c

-- a block as it is (view)
abbrev pub state_of : Control → PlainState
state_of c = plain_state c.state

-- the block before its last turn (view), which is kept if that turn took statements
abbrev pub kept_by : Bool → Control → Option PlainState
kept_by true c = Some (plain_state c.copy)
kept_by false c = None

abbrev pub kept_of : Control → Option PlainState
kept_of c = kept_by c.is_moved c
