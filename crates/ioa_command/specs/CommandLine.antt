-- The words of the command line (profile): what clap is told of them, and what its matches choose.
use Rattle.std.specs.Prelude.{◌≡◌, ◌⊎◌, ◌<◌, ◌^◌, ⊤, ℕ, Bool, true, false, ◌||◌, if◌then◌else◌, List, [], ◌∷◌}
use Rattle.std.specs.Prelude.{Option, Some, None}
use Rattle.std.specs.Prelude.{codes, option_and_then, option_map, string_bytes}
use Rattle.std.specs.Str.{bytes_eq}
use Rattle.std.specs.Str.Parse.{IsNumeral, digits_value, without_leading_plus}
use Rattle.clap.specs.Walk.{Row, Rule, Text, first_of, one_of}
use Rattle.clap.specs.Simple.{App, new_app, new_rule, on_top, with_rule, with_subcommand, subcommand_of}
use Rattle.clap.specs.Faults.{fault_of}
use Rattle.clap.specs.Kinds.{HasKind, IsAmong}
use Rattle.clap.specs.Values.{kind_of}
use Rattle.clap.specs.declared.builder.action.ArgAction.TheVariants.{SetTrue}
use Rattle.clap.specs.declared.builder.value_parser.ValueParser.{ValueParser}
use Rattle.clap.specs.declared.builder.value_parser.ValueParser.TheVariants.{Unsigned}
use Rattle.clap.specs.declared.error.Error.{Error}
use Rattle.clap.specs.declared.error.kind.ErrorKind.{ErrorKind}
use Rattle.clap.specs.declared.error.kind.ErrorKind.TheVariants.{DisplayHelp, DisplayVersion}
use Rattle.clap.specs.declared.error.kind.ErrorKind.TheVariants.{OutOfMemory, ValueValidation}
use Rattle.ioa_record.specs.declared.options.TheConstants.{GREATEST_WORKERS, GREATEST_STEPS, GREATEST_ATTEMPTS}
use Rattle.ioa_record.specs.declared.options.TheConstants.{DEFAULT_WORKERS}
use Rattle.ioa_pipeline.specs.declared.judging.Judging.{Judging}
use Rattle.ioa_pipeline.specs.declared.judging.Judging.TheVariants.{Unasked, Silent, Told}
use Rattle.ioa_pipeline.specs.declared.tracing.Format.{Format}
use Rattle.ioa_pipeline.specs.declared.tracing.Format.TheVariants as format
use Rattle.ioa_pipeline.specs.declared.tracing.Format.TheVariants.{Json, States, Diagram, Sequence}
use Rattle.ioa_record.specs.Options.{AreInRange, PlainOptions}
use Rattle.ioa_monitor.specs.declared.findings.Findings.{Findings}
use Rattle.ioa_command.specs.declared.choice.InputName.{InputName}
use Rattle.ioa_command.specs.declared.choice.InputName.TheVariants.{Standard, File}
use Rattle.ioa_command.specs.declared.choice.RunChoice.{RunChoice}
use Rattle.ioa_command.specs.declared.choice.TraceChoice.{TraceChoice}
use Rattle.ioa_command.specs.declared.choice.ExplainChoice.{ExplainChoice}
use Rattle.ioa_command.specs.declared.choice.ReplayChoice.{ReplayChoice}
use Rattle.ioa_command.specs.declared.choice.CheckChoice.{CheckChoice}
use Rattle.ioa_command.specs.declared.choice.Subcommand.{Subcommand}
use Rattle.ioa_command.specs.declared.choice.Subcommand.TheVariants.{Run, Explain, Trace, Replay, Check, Print}
use Rattle.ioa_command.specs.FailOn.{findings_named, no_findings}

-- `--name N`, a number that a parser takes; if it is not given, another text is read in its place
abbrev pub number_rule : Text → ValueParser → Text → Rule
number_rule name parser default =
    record (new_rule name) { long = Some name; parser = Some parser; value_names = 1; defaults = default ∷ [] }

abbrev pub workers_rule : Rule
workers_rule = number_rule (codes "workers") (Unsigned 1 GREATEST_WORKERS) (codes "1")

abbrev pub steps_rule : Rule
steps_rule = number_rule (codes "steps") (Unsigned 0 GREATEST_STEPS) (codes "10000")

abbrev pub attempts_rule : Rule
attempts_rule = number_rule (codes "attempts") (Unsigned 1 GREATEST_ATTEMPTS) (codes "1000")

-- a word that may be left out
abbrev pub word_rule : Text → Rule
word_rule id = record (new_rule id) { value_names = 1 }

-- `--fail-on NAMES`
abbrev pub fail_on_rule : Rule
fail_on_rule = record (new_rule (codes "fail-on")) { long = Some (codes "fail-on"); value_names = 1 }

-- `run FILE --workers N --steps N --attempts N --fail-on NAMES`
abbrev pub run_app : App
run_app =
    with_rule
    (with_rule
    (with_rule (with_rule (with_rule (new_app (codes "run")) (word_rule (codes "file"))) workers_rule) steps_rule)
    attempts_rule)
    fail_on_rule

-- `explain FILE SCHEDULE`
abbrev pub explain_app : App
explain_app =
    with_rule (with_rule (new_app (codes "explain")) (word_rule (codes "file"))) (word_rule (codes "schedule"))

-- `--format NAME`
abbrev pub format_rule : Rule
format_rule = record (new_rule (codes "format")) { long = Some (codes "format"); value_names = 1 }

-- `trace FILE SCHEDULE --steps N --attempts N --format NAME --fail-on NAMES`
abbrev pub trace_app : App
trace_app =
    with_rule
    (with_rule
    (with_rule
    (with_rule
    (with_rule (with_rule (new_app (codes "trace")) (word_rule (codes "file"))) (word_rule (codes "schedule")))
    steps_rule)
    attempts_rule)
    format_rule)
    fail_on_rule

-- `--verdicts`
abbrev pub verdicts_rule : Rule
verdicts_rule =
    record (new_rule (codes "verdicts")) { long = Some (codes "verdicts"); action = Some SetTrue }

-- `check FILE SCHEDULE --verdicts --fail-on NAMES`
abbrev pub check_app : App
check_app =
    with_rule
    (with_rule
    (with_rule (with_rule (new_app (codes "check")) (word_rule (codes "file"))) (word_rule (codes "schedule")))
    verdicts_rule)
    fail_on_rule

-- `print FILE`
abbrev pub print_app : App
print_app = with_rule (new_app (codes "print")) (word_rule (codes "file"))

-- the program's name, and then one of its subcommands; it has a version, and shows its help if there are no words
abbrev pub program_app : App
program_app =
    with_subcommand
    (with_subcommand
    (with_subcommand
    (with_subcommand
    (with_subcommand
    (on_top (λ s. record s { has_version = true; subcommand_required = true; arg_required_else_help = true })
    (new_app (codes "ioarun")))
    run_app.top)
    explain_app.top)
    trace_app.top)
    check_app.top)
    print_app.top

-- a text is read as a number: it has decimal digits, behind a plus or not, and their number fits in 64 bits
abbrev pub IsReadAs : Text → ℕ → Type 0
IsReadAs text n =
    IsNumeral 10 (without_leading_plus text) × (n ≡ digits_value 10 (without_leading_plus text)) × (n < 2 ^ 64)

-- the number that an option has in the matches: as its text is read
abbrev pub IsNumberOf : List Row → Text → ℕ → Type 0
IsNumberOf rows name n = (text : Text) × (one_of name rows ≡ Some text) × IsReadAs text n

-- the three numbers of options, each in its range
pub record AreNumbersOf (rows : List Row) (o : PlainOptions) : Type 0 where
  pub workers : IsNumberOf rows (codes "workers") o.workers
  pub steps : IsNumberOf rows (codes "steps") o.steps
  pub attempts : IsNumberOf rows (codes "attempts") o.attempts
  pub range : AreInRange o.workers o.steps o.attempts

-- the file of an input, if it is none of standard input
abbrev pub name_of : InputName → Option Text
name_of Standard = None
name_of (File name) = Some (string_bytes name)

-- the file that a word names: none if it is `-`
abbrev pub input_named : Text → Option Text
input_named word = if bytes_eq word (codes "-") then None else Some word

-- the file that a word names, which may be left out
abbrev pub input_given : Option Text → Option Text
input_given word = option_and_then input_named word

-- the findings that a word names: none if it is left out
abbrev pub findings_given : Option Text → Option Findings
findings_given None = Some no_findings
findings_given (Some names) = findings_named names

-- findings, if no ending is among them
abbrev pub only_verdicts : Option Findings → Option Findings
only_verdicts None = None
only_verdicts (Some f) = if f.fault || f.spent then None else Some f

-- the findings that a word names, if no ending is among them
abbrev pub verdict_findings_given : Option Text → Option Findings
verdict_findings_given word = only_verdicts (findings_given word)

-- the format of a name; nothing if there is none
abbrev pub format_named : Text → Option Format
format_named name =
    if bytes_eq name (codes "text") then Some format.Text
    else (if bytes_eq name (codes "json") then Some Json
    else (if bytes_eq name (codes "itf") then Some States
    else (if bytes_eq name (codes "svg") then Some Diagram
    else (if bytes_eq name (codes "mermaid") then Some Sequence else None))))

-- the format that a word names: text if it is left out
abbrev pub format_given : Option Text → Option Format
format_given None = Some format.Text
format_given (Some name) = format_named name

-- options of one worker, with two numbers, each in its range
pub record AreLimitsOf (rows : List Row) (o : PlainOptions) : Type 0 where
  pub workers : o.workers ≡ DEFAULT_WORKERS
  pub steps : IsNumberOf rows (codes "steps") o.steps
  pub attempts : IsNumberOf rows (codes "attempts") o.attempts
  pub range : AreInRange o.workers o.steps o.attempts

-- the file of a schedule that has a word of its own, and none of it if the word is `-`; nothing if there is no word
abbrev pub schedule_given : List Row → Option (Option Text)
schedule_given rows = option_map input_named (first_of (codes "schedule") rows)

-- what the matches of `trace` choose if no schedule is named
pub record IsTraceOf (rows : List Row) (t : TraceChoice) : Type 0 where
  pub input : name_of t.input ≡ input_given (first_of (codes "file") rows)
  pub schedule : schedule_given rows ≡ None
  pub options : AreLimitsOf rows t.options
  pub format : format_given (first_of (codes "format") rows) ≡ Some t.format
  pub fail_on : verdict_findings_given (first_of (codes "fail-on") rows) ≡ Some t.fail_on

-- what the matches of `run` choose
pub record IsRunOf (rows : List Row) (r : RunChoice) : Type 0 where
  pub input : name_of r.input ≡ input_given (first_of (codes "file") rows)
  pub options : AreNumbersOf rows r.options
  pub fail_on : findings_given (first_of (codes "fail-on") rows) ≡ Some r.fail_on

-- an input and another, if there is one, are not both standard input
abbrev pub ReadsApart : InputName → Option InputName → Type 0
ReadsApart (File name) other = ⊤
ReadsApart Standard None = ⊤
ReadsApart Standard (Some (File name)) = ⊤
ReadsApart Standard (Some Standard) = ⊥

-- what the matches of `trace` choose if a schedule is named; the two numbers are in their range, and nothing is done
-- with them
pub record IsReplayOf (rows : List Row) (r : ReplayChoice) : Type 0 where
  pub input : name_of r.input ≡ input_given (first_of (codes "file") rows)
  pub schedule : schedule_given rows ≡ Some (name_of r.schedule)
  pub limits : PlainOptions
  pub within : AreLimitsOf rows limits
  pub format : format_given (first_of (codes "format") rows) ≡ Some r.format
  pub fail_on : verdict_findings_given (first_of (codes "fail-on") rows) ≡ Some r.fail_on
  pub apart : ReadsApart r.input (Some r.schedule)

-- what the matches of `trace` choose: a run or a replay
abbrev pub IsOfTrace : List Row → Subcommand → Type 0
IsOfTrace rows (Run r) = ⊥
IsOfTrace rows (Explain c) = ⊥
IsOfTrace rows (Trace t) = IsTraceOf rows t
IsOfTrace rows (Replay r) = IsReplayOf rows r
IsOfTrace rows (Check c) = ⊥
IsOfTrace rows (Print input) = ⊥

-- a flag is given: clap has the text `true` for it, and else `false`
abbrev pub flag_given : Option Text → Bool
flag_given None = false
flag_given (Some text) = bytes_eq text (codes "true")

-- what becomes of the invariants: the verdicts are told if they are asked for, and evaluated if the status is to tell
abbrev pub judging_of : Bool → Findings → Judging
judging_of asked fail_on = if asked then Told else (if fail_on.invariant then Silent else Unasked)

-- what the matches of `check` choose
pub record IsCheckOf (rows : List Row) (c : CheckChoice) : Type 0 where
  pub input : name_of c.input ≡ input_given (first_of (codes "file") rows)
  pub fail_on : verdict_findings_given (first_of (codes "fail-on") rows) ≡ Some c.fail_on
  pub judging : c.judging ≡ judging_of (flag_given (first_of (codes "verdicts") rows)) c.fail_on
  pub schedule : option_map name_of c.schedule ≡ schedule_given rows
  pub apart : ReadsApart c.input c.schedule

-- what the matches of `explain` choose
pub record IsExplainOf (rows : List Row) (c : ExplainChoice) : Type 0 where
  pub input : name_of c.input ≡ input_given (first_of (codes "file") rows)
  pub schedule : option_map name_of c.schedule ≡ schedule_given rows
  pub apart : ReadsApart c.input c.schedule

-- the subcommand that the matches name, with what it is asked to do
abbrev pub IsChosenBy : Option (Text × List Row) → Subcommand → Type 0
IsChosenBy None choice = ⊥
IsChosenBy (Some (name, rows)) (Run r) = (name ≡ codes "run") × IsRunOf rows r
IsChosenBy (Some (name, rows)) (Explain c) = (name ≡ codes "explain") × IsExplainOf rows c
IsChosenBy (Some (name, rows)) (Trace t) = (name ≡ codes "trace") × IsTraceOf rows t
IsChosenBy (Some (name, rows)) (Replay r) = (name ≡ codes "trace") × IsReplayOf rows r
IsChosenBy (Some (name, rows)) (Check c) = (name ≡ codes "check") × IsCheckOf rows c
IsChosenBy (Some (name, rows)) (Print input) =
    (name ≡ codes "print") × (name_of input ≡ input_given (first_of (codes "file") rows))

-- what the words choose, the program's name first
abbrev pub Chooses : List Text → Subcommand → Type 0
Chooses words choice = IsChosenBy (subcommand_of program_app words) choice

-- clap takes the words
abbrev pub AreTaken : List Text → Type 0
AreTaken words = fault_of program_app words ≡ []

-- the words choose no subcommand
abbrev pub ChoosesNothing : List Text → Type 0
ChoosesNothing words = (choice : Subcommand) → Chooses words choice → ⊥

-- an error that clap has for the words, or want of memory; or one for words that clap takes and that choose nothing
abbrev pub IsErrorOf : List Text → Error → Type 0
IsErrorOf words e =
    HasKind (fault_of program_app words) e ⊎ ((kind_of e ≡ ValueValidation) × AreTaken words × ChoosesNothing words)

-- the words ask for the help or for the version
abbrev pub AsksForText : List Text → Type 0
AsksForText words =
    IsAmong DisplayHelp (fault_of program_app words) ⊎ IsAmong DisplayVersion (fault_of program_app words)

-- the status with which the program ends at an error of this kind: 0 for a text that was asked for, 3 if memory ran
-- out, else 2
abbrev pub words_status : ErrorKind → ℕ
words_status DisplayHelp = 0
words_status DisplayVersion = 0
words_status OutOfMemory = 3
words_status kind = 2
