-- What is true of every book (Lynch 8.1, 8.2 and 14.1).
use Rattle.std.specs.Prelude.{◌≡◌, ◌≤◌, length, Some}
use Rattle.ioa_compose.specs.Automata.{IsExecution, ProjectsOnEach}
use Rattle.ioa_compose.specs.Channels.{HandsOutFromEmpty}
use Rattle.ioa_compose.specs.Executions.{replay}
use Rattle.ioa_compose.specs.JointStep.{HasAnswer, IsJointState, IsJointStep}
use Rattle.ioa_compose.specs.Scripts.{TakesInOrder}
use Rattle.ioa_compose.specs.Steps.{IsStep}
use Rattle.ioa_commits.specs.Books.{PlainBook, states_held}

-- the log of a book
pub record IsLawful (b : PlainBook) : Type 0 where
  -- it replays from the start to the configurations held (Lynch 8.1)
  pub leads : replay b.log b.start ≡ Some (states_held b)
  -- it is within the limit (profile)
  pub within : length b.log ≤ b.limit
  -- its projection on each component is an execution of that component, and ends in the configuration held (Lynch 8.2)
  pub projections : ProjectsOnEach HasAnswer b.start b.log (states_held b)
  -- if the start is a state of the composition, the log is an execution of it (Lynch 8.1 and 8.2)
  pub execution : IsJointState b.start → IsExecution (IsJointStep IsStep) b.start b.log (states_held b)
  -- and each channel that was empty has handed out what was sent on it, by its kind: a prefix (Lynch 14.1), or if it
  -- keeps no order no message more often than it was sent (profile)
  pub channels : IsJointState b.start → HandsOutFromEmpty b.start b.log (states_held b)
  -- and each script a beginning of what was in it (profile)
  pub scripts : IsJointState b.start → TakesInOrder b.start b.log (states_held b)
