-- What a run leaves: an execution of the system (Lynch 8.1, 8.2 and 14.1), and an ending a node (profile).
use Rattle.std.specs.Prelude.{◌≡◌, ℕ, ◌≤◌, List, [], ◌∷◌, Some, length}
use Rattle.std.specs.List.{AllByRecursion}
use Rattle.ioa_transitions.specs.Entries.{PlainEntry}
use Rattle.ioa_system.specs.Systems.{SystemParts}
use Rattle.ioa_compose.specs.declared.configuration.Conf.{Conf}
use Rattle.ioa_compose.specs.Executions.{replay}
use Rattle.ioa_compose.specs.Start.{start}
use Rattle.ioa_compose.specs.IsStart.{IsStart}
use Rattle.ioa_compose.specs.Automata.{IsExecution, ProjectsOnEach}
use Rattle.ioa_compose.specs.JointStep.{IsJointStep}
use Rattle.ioa_compose.specs.Steps.{IsStep}
use Rattle.ioa_compose.specs.Channels.{Delivers}
use Rattle.ioa_compose.specs.Scripts.{TakesBeginning}
use Rattle.ioa_record.specs.declared.ending.Ending.{Ending}
use Rattle.ioa_record.specs.declared.record.Record.{Record}

-- a schedule within the limit replays from the first configurations, and leads to the second
pub record ReplaysWithin (limit : ℕ) (from : List Conf) (schedule : List PlainEntry) (states : List Conf) : Type 0 where
  pub leads : replay schedule from ≡ Some states
  pub within : length schedule ≤ limit

-- a record and endings that a run leaves: the schedule replays from the system's start, and there is one ending a node
-- (profile). The record itself says that the counts of its workers add up to the number of its actions.
pub record IsRecordOf (s : SystemParts) (limit : ℕ) (r : Record) (endings : List Ending) : Type 0 where
  pub replayed : ReplaysWithin limit (start s) r.schedule r.states.items
  pub ended : length endings ≡ length s.programs

-- a record of one worker: it alone has recorded, so its one count is the number of the actions (profile)
abbrev pub IsOfOneWorker : Record → Type 0
IsOfOneWorker r = r.commits.items ≡ length r.schedule ∷ []

-- a record and endings of a run of a system
pub record IsRunOf (s : SystemParts) (limit : ℕ) (r : Record) (endings : List Ending) : Type 0 where
  -- the run begins at the start of the system (Lynch 8.1 and 14.1)
  pub begins : IsStart s (start s)
  -- the schedule is an execution of the composition, from the start to the states held (Lynch 8.1 and 8.2)
  pub execution : IsExecution (IsJointStep IsStep) (start s) r.schedule r.states.items
  -- its projection on each component is an execution of that component (Lynch 8.2)
  pub projections : ProjectsOnEach IsStep (start s) r.schedule r.states.items
  -- each declared channel has handed out a beginning of what was sent on it, and holds the rest (Lynch 14.1)
  pub channels : AllByRecursion (Delivers r.schedule r.states.items) s.channels
  -- each declared script has handed out a beginning of its stimuli, and holds the rest (profile)
  pub scripts : AllByRecursion (TakesBeginning r.schedule r.states.items) s.scripts
  -- the runtime finds each of these steps, the schedule is within the limit, and there is one ending a node (profile)
  pub left : IsRecordOf s limit r endings
