-- The line of the start of a run as JSON (form): the variables with their sorts and first values, and the queues.
use Rattle.std.specs.Prelude.{ℕ, ℤ, List, [], ◌∷◌, ◌++◌, codes, length, Option, Some, None}
use Rattle.std.specs.List.{flat_map}
use Rattle.std.specs.Fmt.{decimal, signed_decimal}
use Rattle.ioa_values.specs.Data.{Data}
use Rattle.ioa_values.specs.Text.{with_commas}
use Rattle.ioa_operators.specs.Shapes.{PlainShape}
use Rattle.ioa_actions.specs.declared.component.Component.{Component}
use Rattle.ioa_actions.specs.declared.component.Component.TheVariants as component
use Rattle.ioa_source.specs.Sides.{CheckedVariable}
use Rattle.ioa_compose.specs.declared.configuration.Conf.{Conf}
use Rattle.ioa_compose.specs.declared.configuration.Conf.TheVariants.{Node, Queue}
use Rattle.ioa_show.specs.Receivers.{taken_shape}
use Rattle.ioa_show.specs.Sorts.{sort_text}
use Rattle.ioa_show.specs.Tagged.{tagged}

-- the node of a variable, and the sort of the variable
unfoldable pub sorted_words : ℤ → PlainShape → List ℕ
sorted_words i s =
    codes "{\"node\":" ++ (signed_decimal i ++ (codes ",\"sort\":\"" ++ (sort_text s ++ codes "\",\"value\":")))

-- the value of a variable, and the name of the variable
unfoldable pub valued_words : List (List ℕ) → Data → List ℕ → List ℕ
valued_words names v x = tagged names v ++ (codes ",\"variable\":\"" ++ (x ++ codes "\"}"))

-- a variable of a node, with its sort and its value
abbrev pub variable_told : List (List ℕ) → ℤ → Data → CheckedVariable → List ℕ
variable_told names i v x = sorted_words i x.declared.shape ++ valued_words names v x.declared.name

-- the variables of a node with these values, in the order of their declaration, one for each value
abbrev pub variables_told : List (List ℕ) → ℤ → List Data → List CheckedVariable → List (List ℕ)
variables_told names i [] xs = []
variables_told names i (v ∷ vs) [] = []
variables_told names i (v ∷ vs) (x ∷ xs) = variable_told names i v x ∷ variables_told names i vs xs

-- the variables of a component; a queue has none
abbrev pub conf_variables : List (List ℕ) → Conf → List (List ℕ)
conf_variables names (Node c) = variables_told names c.program.node c.variables c.program.automaton.variables
conf_variables names (Queue q) = []

-- the sort of messages
unfoldable pub sort_words : PlainShape → List ℕ
sort_words s = codes ",\"sort\":\"" ++ (sort_text s ++ codes "\"")

-- the sort of the messages of a channel, if they have one
abbrev pub sort_told : Option PlainShape → List ℕ
sort_told None = []
sort_told (Some s) = sort_words s

-- which channel it is
abbrev pub ends_told : ℤ → ℤ → List ℕ
ends_told i j = codes "{\"channel\":[" ++ (signed_decimal i ++ (codes ", " ++ (signed_decimal j ++ codes "]")))

-- a channel with the number of its messages and their sort
unfoldable pub channel_told : ℤ → ℤ → ℕ → Option PlainShape → List ℕ
channel_told i j n s = ends_told i j ++ (codes ",\"length\":" ++ (decimal n ++ (sort_told s ++ codes "}")))

-- the script of a node, with the number of its inputs
unfoldable pub script_told : ℤ → ℕ → List ℕ
script_told i n = codes "{\"length\":" ++ (decimal n ++ (codes ",\"script\":" ++ (signed_decimal i ++ codes "}")))

-- a queue with the number of its items, among these components
abbrev pub queue_told : List Conf → Component → ℕ → List ℕ
queue_told cs (component.Node i) n = script_told i n
queue_told cs (component.Channel i j) n = channel_told i j n (taken_shape cs j)
queue_told cs (component.Script i) n = script_told i n

-- the queue of a component, among these; a node is none
abbrev pub conf_queues : List Conf → Conf → List (List ℕ)
conf_queues cs (Node c) = []
conf_queues cs (Queue q) = queue_told cs q.component (length q.items) ∷ []

-- the line of the start, in which components have these configurations
unfoldable pub start_line : List (List ℕ) → List Conf → List ℕ
start_line names cs =
    codes "{\"kind\":\"start\",\"queues\":[" ++ (with_commas (flat_map (conf_queues cs) cs)
    ++ (codes "],\"variables\":[" ++ (with_commas (flat_map (conf_variables names) cs) ++ codes "]}\n")))
