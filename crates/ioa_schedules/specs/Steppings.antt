-- A block gone through statement by statement, as the code keeps it (view).
use Rattle.std.specs.Prelude.{ℕ, List}
use Rattle.ioa_values.specs.Data.{Data}
use Rattle.ioa_operators.specs.declared.shape.Shape.{Shape}
use Rattle.ioa_terms.specs.declared.callee.Callee.{Callee}
use Rattle.ioa_terms.specs.PlainTerm.{PlainStatements}
use Rattle.ioa_schedules.specs.declared.stepping.Stepping.{Stepping}
use Rattle.ioa_schedules.specs.States.{PlainState, plain_state, todo_in, values_in}

-- what is still to do (view)
abbrev pub to_do_in : Stepping → PlainStatements ℕ Callee Shape
to_do_in s = todo_in s.state

-- the values of the block's own variables (view)
abbrev pub own_in : Stepping → List Data
own_in s = values_in s.state

-- a block as it is (view)
abbrev pub stepping_of : Stepping → PlainState
stepping_of s = plain_state s.state
