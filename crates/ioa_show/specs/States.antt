-- The states of a run in the informal trace format (form): one line a state.
use Rattle.std.specs.Prelude.{◌≡◌, ℕ, ℤ, ◌+◌, Bool, true, false, List, [], ◌∷◌, ◌++◌, codes}
use Rattle.std.specs.Prelude.{Option, Some, None, Result, Ok, Err, IsErr}
use Rattle.std.specs.List.{flat_map}
use Rattle.std.specs.Fmt.{decimal, signed_decimal}
use Rattle.ioa_values.specs.Data.{Data, items_of, sequence}
use Rattle.ioa_operators.specs.Shapes.{PlainShape, sequences}
use Rattle.ioa_actions.specs.ActionText.{entry_text}
use Rattle.ioa_actions.specs.declared.component.Component.{Component}
use Rattle.ioa_actions.specs.declared.component.Component.TheVariants as component
use Rattle.ioa_actions.specs.declared.fault.StepFault.{StepFault}
use Rattle.ioa_source.specs.Sides.{CheckedVariable}
use Rattle.ioa_system.specs.Systems.{SystemParts}
use Rattle.ioa_transitions.specs.Entries.{PlainEntry}
use Rattle.ioa_channels.specs.Queues.{messages_of}
use Rattle.ioa_channels.specs.declared.queue.Item.{Item}
use Rattle.ioa_compose.specs.Composition.{joint_answer}
use Rattle.ioa_compose.specs.Start.{start}
use Rattle.ioa_compose.specs.declared.configuration.Conf.{Conf}
use Rattle.ioa_compose.specs.declared.configuration.Conf.TheVariants.{Node, Queue}
use Rattle.ioa_paper.specs.Papers.{PlainPaper, and_text}
use Rattle.ioa_record.specs.declared.ending.Ending.{Ending}
use Rattle.ioa_verdicts.specs.declared.verdict.Verdict.{Verdict}
use Rattle.ioa_show.specs.Json.{json, shaped_json}
use Rattle.ioa_show.specs.Judged.{marks_at}
use Rattle.ioa_show.specs.Memory.{ran_out}
use Rattle.ioa_show.specs.Receivers.{taken_shape}
use Rattle.ioa_show.specs.declared.memory.TheConstants.{RAN_OUT}

-- the variable x of node i is `x@i`, behind a comma
unfoldable pub variable_key : List ℕ → ℤ → List ℕ
variable_key x i = codes ",\"" ++ (x ++ (codes "@" ++ (signed_decimal i ++ codes "\"")))

-- what waits on the channel from i to j is `queue(i, j)`, behind a comma
unfoldable pub channel_key : ℤ → ℤ → List ℕ
channel_key i j = codes ",\"queue(" ++ (signed_decimal i ++ (codes ", " ++ (signed_decimal j ++ codes ")\"")))

-- the keys of a node's variables, in the order of their declaration, one for each value
abbrev pub variable_keys : ℤ → List Data → List CheckedVariable → List ℕ
variable_keys i [] xs = []
variable_keys i (v ∷ vs) [] = []
variable_keys i (v ∷ vs) (x ∷ xs) = variable_key x.declared.name i ++ variable_keys i vs xs

-- the key of a channel; a script has none
abbrev pub queue_key : Component → List ℕ
queue_key (component.Node i) = []
queue_key (component.Channel i j) = channel_key i j
queue_key (component.Script i) = []

-- the keys of a component
abbrev pub conf_keys : Conf → List ℕ
conf_keys (Node c) = variable_keys c.program.node c.variables c.program.automaton.variables
conf_keys (Queue q) = queue_key q.component

-- a node's variables with their values, by the shapes of their sorts
abbrev pub variable_fields : List (List ℕ) → ℤ → List Data → List CheckedVariable → List ℕ
variable_fields names i [] xs = []
variable_fields names i (v ∷ vs) [] = []
variable_fields names i (v ∷ vs) (x ∷ xs) =
    (variable_key x.declared.name i ++ (codes ":" ++ shaped_json names x.declared.shape v))
    ++ variable_fields names i vs xs

-- what waits, first to last, by the shape of the messages, if they have one
abbrev pub waiting : List (List ℕ) → Option PlainShape → Option (List Data) → List ℕ
waiting names s None = codes "[]"
waiting names None (Some ms) = json names (sequence (items_of ms))
waiting names (Some s) (Some ms) = shaped_json names (sequences s) (sequence (items_of ms))

-- a channel with what waits on it, among these components
abbrev pub queue_field : List (List ℕ) → List Conf → Component → List Item → List ℕ
queue_field names cs (component.Node i) items = []
queue_field names cs (component.Channel i j) items =
    channel_key i j ++ (codes ":" ++ waiting names (taken_shape cs j) (messages_of items))
queue_field names cs (component.Script i) items = []

-- what a component has in a state, among these components
abbrev pub conf_fields : List (List ℕ) → List Conf → Conf → List ℕ
conf_fields names cs (Node c) = variable_fields names c.program.node c.variables c.program.automaton.variables
conf_fields names cs (Queue q) = queue_field names cs q.component q.items

-- what a state begins with: behind how many actions it is, and the marks of the invariants that are first not true in
-- it, as far as the words of what leads to it
unfoldable pub index_words : ℕ → List ℕ → List ℕ
index_words k marks = codes "{\"#meta\":{\"index\":" ++ (decimal k ++ (marks ++ codes "},\"action\":\""))

-- the state behind so many actions, with these marks and the words of what leads to it
abbrev pub state_text : List (List ℕ) → ℕ → List ℕ → List ℕ → List Conf → List ℕ
state_text names k marks words cs =
    index_words k marks ++ (words ++ (codes "\"" ++ (flat_map (conf_fields names cs) cs ++ codes "}")))

-- what is said of what comes after a step: nothing if it is no step
abbrev pub if_step : (List Conf → List ℕ) → Result (List Conf) StepFault → List ℕ
if_step f (Ok next) = f next
if_step f (Err e) = []

-- the states behind these entries, of which so many are counted before: one line a state, each with its marks, its
-- action and what its effect chose
abbrev pub later_states : List (List ℕ) → (ℕ → List ℕ) → ℕ → List PlainEntry → List Conf → List ℕ
later_states names marks k [] cs = []
later_states names marks k (e ∷ more) cs = if_step (λ next.
    (codes ",\n" ++ state_text names (k + 1) (marks (k + 1)) (entry_text names e.action e.chosen) next)
    ++ later_states names marks (k + 1) more next)
    (joint_answer e cs)

-- the description of a run in which memory ran out
unfoldable pub described : List ℕ
described = codes "\"description\":\"" ++ (RAN_OUT.now ++ codes "\",")

-- that description, if memory ran out
abbrev pub description : Bool → List ℕ
description true = described
description false = []

-- what stands in front of the names of what a state has, and behind them
unfoldable pub opening_words : Bool → List ℕ
opening_words short =
    codes "{\"#meta\":{" ++ (description short
    ++ codes "\"format\":\"ITF\",\"varTypes\":{}},\"vars\":[\"action\"")

unfoldable pub states_words : List ℕ
states_words = codes "],\"states\":[\n"

-- the names of what a state has, and the first state
abbrev pub head_text : List (List ℕ) → (ℕ → List ℕ) → Bool → List Conf → List ℕ
head_text names marks short cs =
    opening_words short ++ (flat_map conf_keys cs
    ++ (states_words ++ state_text names 0 (marks 0) (codes "start") cs))

-- all states from this one on, with the marks of each and whether memory ran out
abbrev pub states_from : List (List ℕ) → (ℕ → List ℕ) → Bool → List PlainEntry → List Conf → List ℕ
states_from names marks short entries cs =
    head_text names marks short cs ++ (later_states names marks 0 entries cs ++ codes "\n]}\n")

-- the states of a system along a schedule from its start, with what these verdicts on its invariants say of them, and
-- with whether memory ran out in a run that left these endings
unfoldable pub states_text : SystemParts → List PlainEntry → List Ending → List Verdict → List ℕ
states_text s entries endings ws =
    states_from s.names (marks_at s.invariants ws) (ran_out endings) entries (start s)

-- an entry is a step or not: the state behind it is written, or nothing new
abbrev pub Steps : Bool → Result (List Conf) StepFault → List Conf → (old new : PlainPaper) → List ℕ → Type 0
Steps true step next old new there = (step ≡ Ok next) × (new ≡ and_text old there)
Steps false step next old new there = IsErr step × (new ≡ old)
