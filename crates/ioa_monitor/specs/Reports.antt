-- The report of a run (profile): its parts in order, each line ended by a line feed.
use Rattle.std.specs.Prelude.{ℕ, ℤ, ◌+◌, List, [], ◌∷◌, ◌++◌, Option, Some, None, map, length, sum, codes}
use Rattle.std.specs.Fmt.{decimal, signed_decimal}
use Rattle.std.specs.List.{flat_map}
use Rattle.ioa_values.specs.Data.{Data}
use Rattle.ioa_values.specs.Text.{text, with_commas}
use Rattle.ioa_actions.specs.ActionText.{entry_text, node_action_text}
use Rattle.ioa_transitions.specs.Entries.{PlainEntry}
use Rattle.ioa_actions.specs.declared.component.Component.{Component}
use Rattle.ioa_actions.specs.declared.component.Component.TheVariants as component
use Rattle.ioa_source.specs.Sides.{CheckedVariable}
use Rattle.ioa_system.specs.Invariants.{InvariantParts}
use Rattle.ioa_system.specs.Systems.{ScriptParts, SystemParts, script_of}
use Rattle.ioa_compose.specs.declared.configuration.Conf.{Conf}
use Rattle.ioa_compose.specs.declared.configuration.Conf.TheVariants.{Node, Queue}
use Rattle.ioa_channels.specs.declared.queue.Item.{Item}
use Rattle.ioa_channels.specs.declared.queue.Item.TheVariants.{Message, Stimulus}
use Rattle.ioa_record.specs.declared.ending.Ending.{Ending}
use Rattle.ioa_record.specs.declared.record.Record.{Record}
use Rattle.ioa_record.specs.Endings.{ending_text}
use Rattle.ioa_verdicts.specs.declared.verdict.Verdict.{Verdict}
use Rattle.ioa_verdicts.specs.Verdicts.{verdict_text, verdicts_of}

-- `k action`, or `k action choose v, w` if the effect chose these values; one line an entry, counted from k
abbrev pub entry_lines : List (List ℕ) → ℕ → List PlainEntry → List ℕ
entry_lines names k [] = []
entry_lines names k (e ∷ more) =
    (decimal k ++ (codes " " ++ (entry_text names e.action e.chosen ++ codes "\n")))
    ++ entry_lines names (k + 1) more

-- `schedule n`, and then the n entries
abbrev pub schedule_text : List (List ℕ) → List PlainEntry → List ℕ
schedule_text names entries =
    (codes "schedule " ++ (decimal (length entries) ++ codes "\n")) ++ entry_lines names 0 entries

-- `node i x = v`
abbrev pub variable_line : List (List ℕ) → ℤ → List ℕ → Data → List ℕ
variable_line names i x v =
    codes "node " ++ (signed_decimal i ++ (codes " " ++ (x ++ (codes " = " ++ (text names v ++ codes "\n")))))

-- one line a variable, in the order of their declaration
abbrev pub variable_lines : List (List ℕ) → ℤ → List Data → List CheckedVariable → List ℕ
variable_lines names i [] xs = []
variable_lines names i (v ∷ vs) [] = []
variable_lines names i (v ∷ vs) (x ∷ xs) = variable_line names i x.declared.name v ++ variable_lines names i vs xs

-- an item of a queue
abbrev pub item_text : List (List ℕ) → Item → List ℕ
item_text names (Message m) = text names m
item_text names (Stimulus a) = node_action_text names a

-- `script i n` for n stimuli that are left of a declared script of node i; nothing if none is declared
abbrev pub script_text : Option ScriptParts → ℤ → ℕ → List ℕ
script_text None i n = []
script_text (Some s) i n = codes "script " ++ (signed_decimal i ++ (codes " " ++ (decimal n ++ codes "\n")))

abbrev pub script_line : List ScriptParts → ℤ → ℕ → List ℕ
script_line scripts i n = script_text (script_of i scripts) i n

-- `channel i -> j {v, w}` for a queue with the items v and w, and the line of a script
abbrev pub queue_line : SystemParts → Component → List Item → List ℕ
queue_line s (component.Node i) items = []
queue_line s (component.Channel i j) items =
    codes "channel " ++ (signed_decimal i ++ (codes " -> " ++ (signed_decimal j
    ++ (codes " {" ++ (with_commas (map (item_text s.names) items) ++ codes "}\n")))))
queue_line s (component.Script i) items = script_line s.scripts i (length items)

-- the lines of a component
abbrev pub component_lines : SystemParts → Conf → List ℕ
component_lines s (Node c) = variable_lines s.names c.program.node c.variables c.program.automaton.variables
component_lines s (Queue q) = queue_line s q.component q.items

-- the lines of the components, in the order of their configurations
abbrev pub states_text : SystemParts → List Conf → List ℕ
states_text s states = flat_map (component_lines s) states

-- `ending i e`, one line a node, counted from i
abbrev pub ending_lines : ℕ → List Ending → List ℕ
ending_lines i [] = []
ending_lines i (e ∷ more) =
    (codes "ending " ++ (decimal i ++ (codes " " ++ (ending_text e ++ codes "\n")))) ++ ending_lines (i + 1) more

-- `worker w commits c`, one line a worker, counted from w
abbrev pub commit_lines : ℕ → List ℕ → List ℕ
commit_lines w [] = []
commit_lines w (c ∷ more) =
    (codes "worker " ++ (decimal w ++ (codes " commits " ++ (decimal c ++ codes "\n")))) ++ commit_lines (w + 1) more

-- the lines of the workers, and then `total n` for the sum n of their counts
abbrev pub commits_text : List ℕ → List ℕ
commits_text commits = commit_lines 0 commits ++ (codes "total " ++ (decimal (sum commits) ++ codes "\n"))

-- `invariant x holds`, or since when it does not
abbrev pub invariant_line : List ℕ → Verdict → List ℕ
invariant_line x f = codes "invariant " ++ (x ++ (codes " " ++ (verdict_text f ++ codes "\n")))

-- one line an invariant, in the order of their declaration
abbrev pub invariant_lines : List InvariantParts → List Verdict → List ℕ
invariant_lines [] fs = []
invariant_lines (v ∷ vs) [] = []
invariant_lines (v ∷ vs) (f ∷ fs) = invariant_line v.name f ++ invariant_lines vs fs

-- what a run left: the schedule, the last states, the endings and the commits
abbrev pub run_text : SystemParts → Record → List Ending → List ℕ
run_text s r endings =
    schedule_text s.names r.schedule ++ states_text s r.states.items ++ ending_lines 0 endings
    ++ commits_text r.commits.items

-- the whole report: what a run left, and the verdicts on the invariants along its schedule
abbrev pub report_text : SystemParts → Record → List Ending → List ℕ
report_text s r endings = run_text s r endings ++ invariant_lines s.invariants (verdicts_of s r.schedule)
