-- The schedule that a run prints is read back, and is an execution.
use Rattle.std.proofs.Common.{◌≡◌, ◌≤◌, ◌+◌, ℕ, List, [], ◌∷◌, ◌++◌, Some, Ok, append_assoc, codes, decimal, refl, sym, ap, subst, ◌∙◌, arith, length}
use Rattle.std.specs.List.{AllByRecursion}
use Rattle.ioa_values.specs.Data.{Data, number, truth, constant}
use Rattle.ioa_tokens.specs.Lexeme.{greatest_number}
use Rattle.ioa_actions.specs.ActionText.{entry_text}
use Rattle.ioa_source.specs.Sides.{SourceText}
use Rattle.ioa_system.specs.Systems.{SystemParts}
use Rattle.ioa_text_reader.specs.Texts.{TextSpells}
use Rattle.ioa_check.specs.Systems.{IsSystemOf}
use Rattle.ioa_transitions.specs.Entries.{PlainEntry}
use Rattle.ioa_compose.specs.Executions.{replay}
use Rattle.ioa_compose.specs.Start.{start}
use Rattle.ioa_compose.specs.declared.configuration.Conf.{Conf}
use Rattle.ioa_lines.specs.Lines.{Lines, lines_answer}
use Rattle.ioa_monitor.specs.Reports.{commits_text, ending_lines, entry_lines, invariant_lines, report_text, schedule_text, states_text}
use Rattle.ioa_printed_lines.specs.PrintedLines.{printed_lines}
use Rattle.ioa_printed_lines.specs.TextSystems.{IsBounded, IsTextSystem, MayChoose, MayTake}
use Rattle.ioa_schedule_check.specs.Schedules.{IsExecutionSpelled, schedule_answer}
use Rattle.ioa_record.specs.declared.ending.Ending.{Ending}
use Rattle.ioa_record.specs.declared.record.Record.{Record}
use Rattle.ioa_verdicts.specs.Verdicts.{verdicts_of}
use Rattle.ioa_run_laws.specs.SimpleValues.{AreSimpleValues, IsSimpleValue}
use Rattle.ioa_runtime_values.specs.RuntimeValues.{HasRuntimeValues}
use Rattle.ioa_report_laws.specs.Reported.{IsReported}
use Rattle.ioa_report_laws.specs.Taken.{IsTaken}

-- the lines of a report are those that are read back
pub same_lines : (names : List (List ℕ)) (k : ℕ) (es : List PlainEntry) → entry_lines names k es ≡ printed_lines names k es
same_lines names k [] = refl
same_lines names k (e ∷ more) = ap (λ rest. (decimal k ++ (codes " " ++ (entry_text names e.action e.chosen ++ codes "\n"))) ++ rest) (same_lines names (k + 1) more)

-- a report begins with them
pub joined : (a b c d e : List ℕ) → (((a ++ b) ++ c) ++ d) ++ e ≡ a ++ (b ++ (c ++ (d ++ e)))
joined a b c d e = simp append_assoc

pub stands : (s : SystemParts) (r : Record) (endings : List Ending) → (behind : List ℕ) × (report_text s r endings ≡ schedule_text s.names r.schedule ++ behind)
stands s r endings = (states ++ (ended ++ (commits ++ verdicts)), joined (schedule_text s.names r.schedule) states ended commits verdicts)
  where
    states : List ℕ
    states = states_text s r.states.items

    ended : List ℕ
    ended = ending_lines 0 endings

    commits : List ℕ
    commits = commits_text r.commits.items

    verdicts : List ℕ
    verdicts = invariant_lines s.invariants (verdicts_of s r.schedule)

-- there are few
few_lines : (limit : ℕ) (es : List PlainEntry) → length es ≤ limit → limit ≤ greatest_number → 0 + length es ≤ greatest_number
few_lines limit es within low = omega (arith, within, low)

-- a chosen value of the runtime
may_choose : (many : ℕ) (v : Data) → IsSimpleValue many v → IsBounded v → MayChoose many v
may_choose many (number z) simple bounded = bounded
may_choose many (truth b) simple bounded = tt
may_choose many (constant k) simple bounded = simple
may_choose many _ simple bounded = absurd simple

may_choose_all : (many : ℕ) (vs : List Data) → AreSimpleValues many vs → AllByRecursion IsBounded vs → AllByRecursion (MayChoose many) vs
may_choose_all many [] simple bounded = tt
may_choose_all many (v ∷ vs) simple bounded = (may_choose many v simple.0 bounded.0, may_choose_all many vs simple.1 bounded.1)

-- each may be taken
pub may_take : (s : SystemParts) (es : List PlainEntry) → AllByRecursion (IsTaken s) es → AllByRecursion HasRuntimeValues es → AllByRecursion (MayTake s) es
may_take s [] taken values = tt
may_take s (e ∷ more) taken values = (
  record {
    taken = taken.0.action;
    message = taken.0.message;
    bounded = values.0.arguments.bounded;
    canonical = values.0.arguments.canonical;
    chosen = may_choose_all (length s.names) e.chosen taken.0.chosen values.0.chosen.bounded;
  },
  may_take s more taken.1 values.1,
)

-- a schedule whose lines are read back
pub record IsPrinted (s : SystemParts) (es : List PlainEntry) : Type 0 where
  pub system : IsTextSystem s
  pub may : AllByRecursion (MayTake s) es
  pub few : 0 + length es ≤ greatest_number

-- a replay takes the entries of its system
abbrev pub TakenLaw : Type 0
TakenLaw = (p : SourceText) (s : SystemParts) (es : List PlainEntry) (cs : List Conf) → IsSystemOf p s → replay es (start s) ≡ Some cs → AllByRecursion (IsTaken s) es

-- texts have systems whose entries can be printed
abbrev pub TextLaw : Type 0
TextLaw = (p : SourceText) (text : List ℕ) (s : SystemParts) → TextSpells p text → IsSystemOf p s → IsTextSystem s

-- what a run left is such a schedule
pub printed : TakenLaw → TextLaw → (text : List ℕ) (s : SystemParts) (r : Record) → IsReported text s r → IsPrinted s r.schedule
printed taken of_text text s r h =
    let run = h.run in
    let replayed = run.run.left.replayed in
    let all = taken run.source s r.schedule r.states.items run.system replayed.leads in
    record {
      system = of_text run.source text s run.spelled run.system;
      may = may_take s r.schedule all h.values;
      few = few_lines h.limit r.schedule replayed.within h.low;
    }

-- printed lines spell the entries that were printed
abbrev pub SpelledLaw : Type 0
SpelledLaw = (s : SystemParts) (k : ℕ) (entries : List PlainEntry) → IsTextSystem s → AllByRecursion (MayTake s) entries → k + length entries ≤ greatest_number → Lines s (printed_lines s.names k entries) entries

pub report_spelled : TakenLaw → TextLaw → SpelledLaw → (text : List ℕ) (s : SystemParts) (r : Record) → IsReported text s r → Lines s (entry_lines s.names 0 r.schedule) r.schedule
report_spelled taken of_text law text s r h =
    let p : IsPrinted s r.schedule = printed taken of_text text s r h in
    subst (λ (lines : List ℕ). Lines s lines r.schedule) (sym (same_lines s.names 0 r.schedule)) (law s 0 r.schedule p.system p.may p.few)

-- these are read from them
abbrev pub ReadLaw : Type 0
ReadLaw = (s : SystemParts) (k : ℕ) (entries : List PlainEntry) → IsTextSystem s → AllByRecursion (MayTake s) entries → k + length entries ≤ greatest_number → lines_answer s (printed_lines s.names k entries) ≡ Ok entries

pub report_read : TakenLaw → TextLaw → ReadLaw → (text : List ℕ) (s : SystemParts) (r : Record) → IsReported text s r → lines_answer s (entry_lines s.names 0 r.schedule) ≡ Ok r.schedule
report_read taken of_text law text s r h =
    let p : IsPrinted s r.schedule = printed taken of_text text s r h in
    ap (lines_answer s) (same_lines s.names 0 r.schedule) ∙ law s 0 r.schedule p.system p.may p.few

-- and they are an execution
pub report_execution : TakenLaw → TextLaw → SpelledLaw → (text : List ℕ) (s : SystemParts) (r : Record) → IsReported text s r → IsExecutionSpelled s (entry_lines s.names 0 r.schedule)
report_execution taken of_text law text s r h = record {
  entries = r.schedule;
  spelled = report_spelled taken of_text law text s r h;
  states = r.states.items;
  replayed = h.run.run.left.replayed.leads;
}

-- which the check of schedules accepts
abbrev pub AcceptedLaw : Type 0
AcceptedLaw = (s : SystemParts) (text : List ℕ) → IsExecutionSpelled s text → schedule_answer s text ≡ Ok tt

pub report_accepted : TakenLaw → TextLaw → SpelledLaw → AcceptedLaw → (text : List ℕ) (s : SystemParts) (r : Record) → IsReported text s r → schedule_answer s (entry_lines s.names 0 r.schedule) ≡ Ok tt
report_accepted taken of_text law accepted text s r h = accepted s (entry_lines s.names 0 r.schedule) (report_execution taken of_text law text s r h)
