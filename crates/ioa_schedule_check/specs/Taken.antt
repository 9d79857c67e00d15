-- The steps that lines of a schedule take, one after another, as far as they take any (profile).
use Rattle.std.specs.Prelude.{◌≡◌, ◌⊎◌, ⊤, ℕ, ◌+◌, List, [], ◌∷◌, ◌++◌, length}
use Rattle.std.specs.Prelude.{Option, Some, None, Result, Ok, Err}
use Rattle.ioa_actions.specs.declared.fault.StepFault.{StepFault}
use Rattle.ioa_transitions.specs.Entries.{PlainEntry}
use Rattle.ioa_system.specs.Systems.{SystemParts}
use Rattle.ioa_tokens.specs.LineTokens.{line_tokens}
use Rattle.ioa_compose.specs.declared.configuration.Conf.{Conf}
use Rattle.ioa_compose.specs.Composition.{joint_answer}
use Rattle.ioa_compose.specs.Executions.{replay}
use Rattle.ioa_compose.specs.Start.{start}
use Rattle.ioa_lines.specs.Lines.{Lines, LinesLeft, cut_entry, entries_left, lines_left, lines_of}
use Rattle.ioa_lines.specs.declared.fault.LineFault.{LineFault}
use Rattle.ioa_schedule_check.specs.declared.fault.ScheduleFault.{ScheduleFault}
use Rattle.ioa_schedule_check.specs.declared.fault.ScheduleFault.TheVariants.{Undefined, Range, Memory, NotStep}
use Rattle.ioa_schedule_check.specs.declared.fault.ScheduleFault.TheVariants.{BadLine}
use Rattle.ioa_schedule_check.specs.Schedules.{IsExecutionSpelled, fault_at, steps_of_lines}

-- an entry and those behind it, if its joint step leads to a state; nothing if it is no step
abbrev pub taken_by : PlainEntry → (List Conf → List PlainEntry) → Result (List Conf) StepFault → List PlainEntry
taken_by e later (Ok next) = e ∷ later next
taken_by e later (Err f) = []

-- what a line takes that spells this, behind k others that have tokens, and then the lines behind it
abbrev pub taken_at : Result (Option PlainEntry) LineFault → ℕ → (ℕ → List Conf → List PlainEntry) → List Conf
    → List PlainEntry
taken_at (Ok None) k later cs = later k cs
taken_at (Ok (Some e)) k later cs = taken_by e (later (k + 1)) (joint_answer e cs)
taken_at (Err f) k later cs = []

-- the entries that lines take as steps one after another, behind k others that have tokens, up to the first line that
-- spells none, and the first entry that is no step
abbrev pub taken_from : SystemParts → List (List ℕ) → ℕ → List Conf → List PlainEntry
taken_from s [] k cs = []
taken_from s (line ∷ lines) k cs = taken_at (cut_entry s k (line_tokens line)) k (taken_from s lines) cs

-- those of the lines that are left
unfoldable pub taken_left : SystemParts → LinesLeft → List Conf → List PlainEntry
taken_left s left cs = taken_from s left.lines left.count cs

-- those of the lines of a text, from the start of a system
unfoldable pub taken_of : SystemParts → List ℕ → List PlainEntry
taken_of s text = taken_left s (lines_left 0 (lines_of text)) (start s)

-- what is answered of the lines that are left
unfoldable pub steps_left : SystemParts → LinesLeft → List Conf → Result (Unit {0}) ScheduleFault
steps_left s left cs = steps_of_lines left.count cs (entries_left s left)

-- what the next step of lines tells of what is answered of them, and of what they take: it is taken, and the others
-- behind it; or no line is left; or why there is no next step
abbrev pub TakesNext : SystemParts → LinesLeft → List Conf → Result (Option PlainEntry) ScheduleFault → LinesLeft
    → List Conf → Type 0
TakesNext s old cs (Ok (Some e)) new next =
    (steps_left s old cs ≡ steps_left s new next) × (taken_left s old cs ≡ e ∷ taken_left s new next)
TakesNext s old cs (Ok None) new next = (steps_left s old cs ≡ Ok tt) × (taken_left s old cs ≡ [])
TakesNext s old cs (Err f) new next = (f ≡ Memory) ⊎ ((steps_left s old cs ≡ Err f) × (taken_left s old cs ≡ []))

-- a list has these behind it too, unless memory ran out
abbrev pub TakesAll : Result (Unit {0}) ScheduleFault → (old new more : List PlainEntry) → Type 0
TakesAll (Ok x) old new more = new ≡ old ++ more
TakesAll (Err f) old new more = (f ≡ Memory) ⊎ (new ≡ old ++ more)

-- what the next step of lines does to the configurations: an entry that is taken moves them, and nothing else does
abbrev pub MovesNext : List Conf → Result (Option PlainEntry) ScheduleFault → List Conf → Type 0
MovesNext cs (Ok (Some e)) next = joint_answer e cs ≡ Ok next
MovesNext cs (Ok None) next = next ≡ cs
MovesNext cs (Err f) next = next ≡ cs

-- from where entries lead to these configurations, more of them lead to those
abbrev pub LeadsOn : (old : List PlainEntry) (cs : List Conf) (new : List PlainEntry) (next : List Conf) → Type 0
LeadsOn old cs new next = (first : List Conf) → replay old first ≡ Some cs → replay new first ≡ Some next

-- so do the entries that lines take, unless memory ran out
abbrev pub MovesAll : Result (Unit {0}) ScheduleFault → (old : List PlainEntry) (cs : List Conf)
    (new : List PlainEntry) (next : List Conf) → Type 0
MovesAll (Ok x) old cs new next = LeadsOn old cs new next
MovesAll (Err f) old cs new next = (f ≡ Memory) ⊎ LeadsOn old cs new next

-- an answer, by the refusal that it has or has not
abbrev pub answer_by : Option ScheduleFault → Result (Unit {0}) ScheduleFault
answer_by None = Ok tt
answer_by (Some f) = Err f

-- if the lines of a text are not refused, they are an execution, and its entries are these
abbrev pub IsWholeIf : Option ScheduleFault → SystemParts → List ℕ → List PlainEntry → Type 0
IsWholeIf None s text entries = (execution : IsExecutionSpelled s text) × (execution.entries ≡ entries)
IsWholeIf (Some f) s text entries = ⊤

-- an entry, if lines that are refused with this fault are refused for an entry; none if they are for a line that spells
-- none, or for want of memory
abbrev pub refused_for : ScheduleFault → PlainEntry → Option PlainEntry
refused_for (Undefined k) e = Some e
refused_for (Range k) e = Some e
refused_for Memory e = None
refused_for (NotStep k) e = Some e
refused_for (BadLine k) e = None

-- an entry of this place, if its joint step has a fault; that of those behind it if it leads to a state
abbrev pub refused_by : ℕ → PlainEntry → (List Conf → Option PlainEntry) → Result (List Conf) StepFault
    → Option PlainEntry
refused_by k e later (Ok next) = later next
refused_by k e later (Err f) = refused_for (fault_at k f) e

-- the first entry that is no step, of entries one after another, the first of which has this place
abbrev pub refused_among : ℕ → List PlainEntry → List Conf → Option PlainEntry
refused_among k [] cs = None
refused_among k (e ∷ more) cs = refused_by k e (refused_among (k + 1) more) (joint_answer e cs)

-- the same of the entries that lines spell; none if a line spells none
abbrev pub refused_of_lines : ℕ → List Conf → Result (List PlainEntry) LineFault → Option PlainEntry
refused_of_lines k cs (Ok entries) = refused_among k entries cs
refused_of_lines k cs (Err f) = None

-- that of the lines that are left
unfoldable pub refused_left : SystemParts → LinesLeft → List Conf → Option PlainEntry
refused_left s left cs = refused_of_lines left.count cs (entries_left s left)

-- that of the lines of a text, from the start of a system
unfoldable pub refused_of : SystemParts → List ℕ → Option PlainEntry
refused_of s text = refused_left s (lines_left 0 (lines_of text)) (start s)

-- what the next step of lines tells of the entry for which they are refused: it is that of those behind; or there is
-- none; or, if there is no next step, it is this one
abbrev pub RefusesNext : SystemParts → LinesLeft → List Conf → Result (Option PlainEntry) ScheduleFault → LinesLeft
    → List Conf → Option PlainEntry → Type 0
RefusesNext s old cs (Ok (Some e)) new next refused = refused_left s old cs ≡ refused_left s new next
RefusesNext s old cs (Ok None) new next refused = refused_left s old cs ≡ None
RefusesNext s old cs (Err f) new next refused = (f ≡ Memory) ⊎ (refused_left s old cs ≡ refused)

-- lines of which all are taken are refused for no entry; else they are for this one, unless memory ran out
abbrev pub RefusesAll : Result (Unit {0}) ScheduleFault → (refused left : Option PlainEntry) → Type 0
RefusesAll (Ok x) refused left = left ≡ None
RefusesAll (Err f) refused left = (f ≡ Memory) ⊎ (refused ≡ left)

-- the lines of a text spell these entries, which replay from the start of a system, then this one, whose joint step has
-- a fault, and then others (Lynch 8.1); and that is what the lines are refused for
pub record StopsBehind (s : SystemParts) (text : List ℕ) (taken : List PlainEntry) (refused : Option PlainEntry)
    (f : ScheduleFault) : Type 0 where
  pub entry : PlainEntry
  pub is : refused ≡ Some entry
  pub rest : List PlainEntry
  pub spelled : Lines s text (taken ++ entry ∷ rest)
  pub states : List Conf
  pub before : replay taken (start s) ≡ Some states
  pub why : StepFault
  pub fault : joint_answer entry states ≡ Err why
  pub told : fault_at (length taken) why ≡ f

-- if the lines of a text are refused for an entry, it is this one, behind those taken; else there is none
abbrev pub IsRefusedIf : Option ScheduleFault → SystemParts → List ℕ → List PlainEntry → Option PlainEntry → Type 0
IsRefusedIf None s text taken refused = refused ≡ None
IsRefusedIf (Some (Undefined k)) s text taken refused = StopsBehind s text taken refused (Undefined k)
IsRefusedIf (Some (Range k)) s text taken refused = StopsBehind s text taken refused (Range k)
IsRefusedIf (Some Memory) s text taken refused = refused ≡ None
IsRefusedIf (Some (NotStep k)) s text taken refused = StopsBehind s text taken refused (NotStep k)
IsRefusedIf (Some (BadLine k)) s text taken refused = refused ≡ None
