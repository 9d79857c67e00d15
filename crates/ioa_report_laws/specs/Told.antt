-- What a report tells of a run, and of what it can be told (profile).
use Rattle.std.specs.Prelude.{◌≡◌, ◌≤◌, ◌<◌, ◌^◌, ◌++◌, ℕ, List, codes, length}
use Rattle.std.specs.Fmt.{decimal}
use Rattle.std.specs.List.{AllByRecursion}
use Rattle.ioa_tokens.specs.Lexeme.{greatest_number}
use Rattle.ioa_system.specs.Systems.{SystemParts}
use Rattle.ioa_transitions.specs.Entries.{PlainEntry}
use Rattle.ioa_compose.specs.Automata.{IsExecution}
use Rattle.ioa_compose.specs.JointStep.{IsJointStep}
use Rattle.ioa_compose.specs.Start.{start}
use Rattle.ioa_compose.specs.Steps.{IsStep}
use Rattle.ioa_compose.specs.declared.configuration.Conf.{Conf}
use Rattle.ioa_record.specs.declared.ending.Ending.{Ending}
use Rattle.ioa_record.specs.declared.record.Record.{Record}
use Rattle.ioa_verdicts.specs.declared.verdict.Verdict.{Verdict}
use Rattle.ioa_verdicts.specs.declared.verdict.Verdict.TheVariants.{Holds, Fails, Undefined, Range}
use Rattle.ioa_verdicts.specs.Verdicts.{verdicts_of}
use Rattle.ioa_monitor.specs.Reports.{commits_text, ending_lines, invariant_lines, schedule_text, states_text}
use Rattle.ioa_runtime_values.specs.RuntimeValues.{AreRuntimeConfs, HasRuntimeValues}

-- what a report tells: the entries of the schedule, the configurations at the end, how the nodes ended, how many
-- actions each worker recorded, and the verdicts on the invariants
pub record Told : Type 0 where
  pub schedule : List PlainEntry
  pub states : List Conf
  pub endings : List Ending
  pub commits : List ℕ
  pub verdicts : List Verdict

-- what the report of a record tells
abbrev pub told_by : SystemParts → Record → List Ending → Told
told_by s r endings = record {
  schedule = r.schedule;
  states = r.states.items;
  endings = endings;
  commits = r.commits.items;
  verdicts = verdicts_of s r.schedule;
}

-- the report that tells this of a system
abbrev pub telling : SystemParts → Told → List ℕ
telling s t =
    schedule_text s.names t.schedule ++ states_text s t.states ++ ending_lines 0 t.endings ++ commits_text t.commits
    ++ invariant_lines s.invariants t.verdicts

-- a text has another one in it
abbrev pub HasPart : List ℕ → List ℕ → Type 0
HasPart text part = (front : List ℕ) × (behind : List ℕ) × (text ≡ front ++ part ++ behind)

-- the line of the total for a schedule of so many actions
abbrev pub total_line : ℕ → List ℕ
total_line n = codes "total " ++ (decimal n ++ codes "\n")

-- the entries of an execution from the start (Lynch 8.1), whose lines have numbers that are tokens
pub record IsToldSchedule (s : SystemParts) (entries : List PlainEntry) : Type 0 where
  pub left : List Conf
  pub execution : IsExecution (IsJointStep IsStep) (start s) entries left
  pub values : AllByRecursion HasRuntimeValues entries
  pub few : length entries ≤ greatest_number

-- configurations that an execution from the start reaches (Lynch 8.1), whichever it is
pub record AreToldStates (s : SystemParts) (states : List Conf) : Type 0 where
  pub taken : List PlainEntry
  pub execution : IsExecution (IsJointStep IsStep) (start s) taken states
  pub values : AreRuntimeConfs states

-- a number of the runtime
abbrev pub IsWord : ℕ → Type 0
IsWord n = n < 2 ^ 64

-- the number of a verdict, if it has one, is a number of the runtime
abbrev pub IsPlaced : Verdict → Type 0
IsPlaced Holds = Unit {0}
IsPlaced (Fails k) = IsWord k
IsPlaced (Undefined k) = IsWord k
IsPlaced (Range k) = IsWord k

-- this can be told of a system: its schedule and its states, each whatever the other is, with values of the runtime;
-- any endings; any counts; and a verdict for each invariant, whatever it says
pub record MayBeTold (s : SystemParts) (t : Told) : Type 0 where
  pub schedule : IsToldSchedule s t.schedule
  pub states : AreToldStates s t.states
  pub commits : AllByRecursion IsWord t.commits
  pub verdicts : length t.verdicts ≡ length s.invariants
  pub places : AllByRecursion IsPlaced t.verdicts
