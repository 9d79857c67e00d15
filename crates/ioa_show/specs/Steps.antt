-- The steps of a run as lines of JSON (form): one line an action, in the order of the schedule, between the line of the
-- start and those of the endings and the verdicts.
use Rattle.std.specs.Prelude.{ℕ, ◌+◌, Bool, true, false, List, [], ◌∷◌, ◌++◌, codes, map, length}
use Rattle.std.specs.Prelude.{Option, Some, None}
use Rattle.std.specs.Fmt.{decimal, signed_decimal}
use Rattle.ioa_values.specs.Data.{Data}
use Rattle.ioa_values.specs.DataOrder.{same}
use Rattle.ioa_values.specs.Text.{with_commas}
use Rattle.ioa_actions.specs.ActionParts.{action_arguments, action_name, node_of}
use Rattle.ioa_actions.specs.ActionText.{entry_text}
use Rattle.ioa_actions.specs.declared.action.Action.{Action}
use Rattle.ioa_actions.specs.declared.component.Component.{Component}
use Rattle.ioa_actions.specs.declared.component.Component.TheVariants as component
use Rattle.ioa_source.specs.Sides.{CheckedVariable}
use Rattle.ioa_system.specs.Systems.{SystemParts}
use Rattle.ioa_transitions.specs.Entries.{PlainEntry}
use Rattle.ioa_compose.specs.Composition.{find_conf, joint_answer}
use Rattle.ioa_compose.specs.Participants.{participants_of}
use Rattle.ioa_compose.specs.Start.{start}
use Rattle.ioa_compose.specs.declared.configuration.Conf.{Conf}
use Rattle.ioa_compose.specs.declared.configuration.Conf.TheVariants.{Node, Queue}
use Rattle.ioa_record.specs.Endings.{ending_text}
use Rattle.ioa_record.specs.declared.ending.Ending.{Ending}
use Rattle.ioa_system.specs.Invariants.{InvariantParts}
use Rattle.ioa_verdicts.specs.declared.verdict.Verdict.{Verdict}
use Rattle.ioa_show.specs.Behind.{between}
use Rattle.ioa_show.specs.Judged.{verdict_lines}
use Rattle.ioa_show.specs.Memory.{ran_out}
use Rattle.ioa_show.specs.Start.{start_line}
use Rattle.ioa_show.specs.States.{if_step}
use Rattle.ioa_show.specs.Tagged.{tagged}
use Rattle.ioa_show.specs.declared.memory.TheConstants.{RAN_OUT}

-- values with commas between, each with its sort
abbrev pub values_told : List (List ℕ) → List Data → List ℕ
values_told names vs = with_commas (map (tagged names) vs)

-- a variable with its values before and after the step
unfoldable pub change_told : List (List ℕ) → List ℕ → Data → Data → List ℕ
change_told names x v w =
    codes "{\"new\":" ++ (tagged names w ++ (codes ",\"old\":" ++ (tagged names v
    ++ (codes ",\"variable\":\"" ++ (x ++ codes "\"}")))))

-- a change behind others if there are such; nothing if the two values are the same
abbrev pub change_unless : Bool → List (List ℕ) → Bool → List ℕ → Data → Data → List ℕ
change_unless true names behind x v w = []
change_unless false names behind x v w = between behind ++ change_told names x v w

-- whether there are changes now, if the two values are the same or not
abbrev pub behind_then : Bool → Bool → Bool
behind_then true behind = behind
behind_then false behind = true

-- the changes of a node's variables with these values before and after the step, in the order of their declaration,
-- behind others if there are such
abbrev pub changes_behind : List (List ℕ) → Bool → List Data → List Data → List CheckedVariable → List ℕ
changes_behind names behind [] ws xs = []
changes_behind names behind (v ∷ vs) [] xs = []
changes_behind names behind (v ∷ vs) (w ∷ ws) [] = []
changes_behind names behind (v ∷ vs) (w ∷ ws) (x ∷ xs) =
    change_unless (same v w) names behind x.declared.name v w
    ++ changes_behind names (behind_then (same v w) behind) vs ws xs

-- the values of a component's variables; a queue has none
abbrev pub conf_values : Conf → List Data
conf_values (Node c) = c.variables
conf_values (Queue q) = []

abbrev pub values_of : Option Conf → List Data
values_of None = []
values_of (Some c) = conf_values c

-- the changes of a component whose variables had these values
abbrev pub conf_changes : List (List ℕ) → List Data → Conf → List ℕ
conf_changes names vs (Node c) = changes_behind names false vs c.variables c.program.automaton.variables
conf_changes names vs (Queue q) = []

abbrev pub changes_of : List (List ℕ) → List Data → Option Conf → List ℕ
changes_of names vs None = []
changes_of names vs (Some c) = conf_changes names vs c

-- which queue it is: a channel by its two ends, a script by its node
abbrev pub queue_name : Component → List ℕ
queue_name (component.Node i) = codes "{\"script\":" ++ signed_decimal i
queue_name (component.Channel i j) =
    codes "{\"channel\":[" ++ (signed_decimal i ++ (codes ", " ++ (signed_decimal j ++ codes "]")))
queue_name (component.Script i) = codes "{\"script\":" ++ signed_decimal i

-- how many items a queue has
abbrev pub conf_length : Conf → ℕ
conf_length (Node c) = 0
conf_length (Queue q) = length q.items

abbrev pub length_of : Option Conf → ℕ
length_of None = 0
length_of (Some c) = conf_length c

-- a queue with its length
abbrev pub queue_told : Component → ℕ → List ℕ
queue_told k n = queue_name k ++ (codes ",\"length\":" ++ (decimal n ++ codes "}"))

-- the queue among the participants of an action, which comes first of two
abbrev pub queue_among : List Component → List Conf → List ℕ
queue_among [] cs = []
queue_among (n ∷ []) cs = []
queue_among (q ∷ n ∷ more) cs = queue_told q (length_of (find_conf q cs))

-- the line of an action, as far as its changes: its name and its arguments
unfoldable pub head_told : List (List ℕ) → Action → List ℕ
head_told names a =
    codes "{\"action\":\"" ++ (action_name a ++ (codes "\",\"arguments\":[" ++ (values_told names (action_arguments a)
    ++ codes "],\"changes\":[")))

-- what the effect chose, behind the changes, whose list it ends; nothing if it chose nothing
abbrev pub chosen_told : List (List ℕ) → List Data → List ℕ
chosen_told names [] = []
chosen_told names (v ∷ vs) = codes "],\"chosen\":[" ++ values_told names (v ∷ vs)

-- what stands between these and the queue: the node of the action, and its place in the schedule
unfoldable pub place_told : Action → ℕ → List ℕ
place_told a k =
    codes "],\"kind\":\"step\",\"node\":" ++ (signed_decimal (node_of a) ++ (codes ",\"number\":" ++ (decimal k
    ++ codes ",\"queues\":[")))

-- what stands behind the queue: the text of the action with what its effect chose
unfoldable pub end_told : List (List ℕ) → PlainEntry → List ℕ
end_told names e = codes "],\"text\":\"" ++ (entry_text names e.action e.chosen ++ codes "\"}\n")

-- what the entry changed of its node, which had these values before, and what its effect chose
abbrev pub done_told : List (List ℕ) → PlainEntry → List Data → List Conf → List ℕ
done_told names e vs next =
    changes_of names vs (find_conf (component.Node (node_of e.action)) next) ++ chosen_told names e.chosen

-- the line of the entry at position k, which led to these configurations, if its node had these values before: the
-- action's name and its arguments, what it changed of its node, what its effect chose, its node, its position, its
-- queue as it is after, and its text
abbrev pub line_told : List (List ℕ) → ℕ → PlainEntry → List Data → List Conf → List ℕ
line_told names k e vs next =
    head_told names e.action ++ (done_told names e vs next
    ++ (place_told e.action k ++ (queue_among (participants_of e.action) next ++ end_told names e)))

-- the line of the step by an entry at position k from these configurations to those
abbrev pub step_line : List (List ℕ) → ℕ → PlainEntry → List Conf → List Conf → List ℕ
step_line names k e cs next =
    line_told names k e (values_of (find_conf (component.Node (node_of e.action)) cs)) next

-- the lines of these entries, counted from k, as far as they are steps from these configurations on
abbrev pub step_lines : List (List ℕ) → ℕ → List PlainEntry → List Conf → List ℕ
step_lines names k [] cs = []
step_lines names k (e ∷ more) cs =
    if_step (λ next. step_line names k e cs next ++ step_lines names (k + 1) more next) (joint_answer e cs)

-- the last line, if memory ran out
unfoldable pub last_words : List ℕ
last_words = codes "{\"kind\":\"end\",\"text\":\"" ++ (RAN_OUT.now ++ codes "\"}\n")

abbrev pub last_line : Bool → List ℕ
last_line true = last_words
last_line false = []

-- the line of the ending of a number
unfoldable pub ending_line : ℕ → Ending → List ℕ
ending_line i e =
    codes "{\"kind\":\"ending\",\"node\":" ++ (decimal i ++ (codes ",\"text\":\"" ++ (ending_text e ++ codes "\"}\n")))

-- the lines of endings, counted from i
abbrev pub ending_lines : ℕ → List Ending → List ℕ
ending_lines i [] = []
ending_lines i (e ∷ more) = ending_line i e ++ ending_lines (i + 1) more

-- what stands behind the steps: the endings, the verdicts on these invariants, and whether memory ran out
abbrev pub closing : List InvariantParts → List Ending → List Verdict → List ℕ
closing vs endings ws = ending_lines 0 endings ++ (verdict_lines vs ws ++ last_line (ran_out endings))

-- all lines from the start on, if it has these configurations
abbrev pub lines_from : List (List ℕ) → List InvariantParts → List PlainEntry → List Ending → List Verdict → List Conf
    → List ℕ
lines_from names vs entries endings ws cs =
    start_line names cs ++ (step_lines names 0 entries cs ++ closing vs endings ws)

-- the start of a system and its steps along a schedule, the endings that a run left, the verdicts on the system's
-- invariants, and whether memory ran out by these endings
unfoldable pub steps_text : SystemParts → List PlainEntry → List Ending → List Verdict → List ℕ
steps_text s entries endings ws = lines_from s.names s.invariants entries endings ws (start s)
