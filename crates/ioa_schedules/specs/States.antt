-- What a block comes to as it runs, as the code keeps it (view).
use Rattle.std.specs.Prelude.{ℕ, List}
use Rattle.ioa_values.specs.Data.{Data}
use Rattle.ioa_operators.specs.declared.shape.Shape.{Shape}
use Rattle.ioa_terms.specs.declared.callee.Callee.{Callee}
use Rattle.ioa_terms.specs.PlainTerm.{PlainStatement, PlainStatements}
use Rattle.ioa_schedules.specs.declared.state.State.{State}
use Rattle.ioa_schedules.specs.Positions.{bottom_of, statements_at}

-- what is still to do (view)
abbrev pub todo_in : State → PlainStatements ℕ Callee Shape
todo_in s = statements_at s.position

-- the values of the block's own variables (view)
abbrev pub values_in : State → List Data
values_in s = s.variables.items

-- the statements of the block's own list that are still to do (view)
abbrev pub bottom_in : State → List (PlainStatement ℕ Callee Shape)
bottom_in s = bottom_of s.position

-- a block: what is still to do, and the values of its own variables
pub record PlainState : Type 0 where
  pub todo : PlainStatements ℕ Callee Shape
  pub own : List Data
  deriving IsSet as PlainState-set

-- a block (view)
abbrev pub plain_state : State → PlainState
plain_state s = record { todo = todo_in s; own = values_in s }
