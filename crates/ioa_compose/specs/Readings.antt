-- What the names of an invariant read in a state (profile): the state variables of nodes, and what waits on channels.
use Rattle.std.specs.Prelude.{ℕ, ℤ, List, [], ◌∷◌, Option, Some, None, map}
use Rattle.std.specs.List.{zip}
use Rattle.std.specs.Option.{option_and_then, option_map}
use Rattle.ioa_values.specs.Data.{Data, sequence, items_of}
use Rattle.ioa_actions.specs.declared.component.Component.TheVariants as component
use Rattle.ioa_terms.specs.Bindings.{Bindings, lookup}
use Rattle.ioa_terms.specs.declared.name.Name.{Name}
use Rattle.ioa_terms.specs.declared.name.Name.TheVariants.{Word, Variable}
use Rattle.ioa_terms.specs.declared.name.Name.TheVariants as called
use Rattle.ioa_system.specs.InView.{variable_names}
use Rattle.ioa_system.specs.Invariants.{InvariantParts, invariant_bindings}
use Rattle.ioa_channels.specs.Queues.{messages_of}
use Rattle.ioa_compose.specs.Composition.{find_conf}
use Rattle.ioa_compose.specs.declared.configuration.Conf.{Conf}
use Rattle.ioa_compose.specs.declared.configuration.Conf.TheVariants.{Node, Queue}

-- the messages in a queue that has no others, from the first to be taken to the last (Lynch 14.1)
abbrev pub queue_messages : Conf → Option Data
queue_messages (Node c) = None
queue_messages (Queue q) = option_map (λ ms. sequence (items_of ms)) (messages_of q.items)

-- the messages on the channel from one node to another, if there is such a channel (Lynch 14.1)
abbrev pub channel_messages : (from to : ℤ) → List Conf → Option Data
channel_messages i j cs = option_and_then queue_messages (find_conf (component.Channel i j) cs)

-- the value of a state variable at a node (Lynch 8.1)
abbrev pub variable_value : List ℕ → Conf → Option Data
variable_value x (Node c) =
    lookup (Word x) (zip (map Word (variable_names c.program.automaton.variables)) c.variables)
variable_value x (Queue q) = None

-- what a name reads: `x@k` the variable at node k, and `queue(i, j)` the messages on the channel from node i to node j
abbrev pub reading : Name → List Conf → Option Data
reading (Word w) cs = None
reading (Variable x k) cs = option_and_then (variable_value x) (find_conf (component.Node k) cs)
reading (called.Queue i j) cs = channel_messages i j cs

-- what several names read, if each reads something
abbrev pub readings : List Name → List Conf → Option (List Data)
readings [] cs = Some []
readings (x ∷ xs) cs = option_and_then (λ v. option_map (λ vs. v ∷ vs) (readings xs cs)) (reading x cs)

-- what the term of an invariant reads in a state, if each of its names reads something
abbrev pub invariant_reads : InvariantParts → List Conf → Option Bindings
invariant_reads v cs = option_map (invariant_bindings v) (readings v.readings cs)
