-- The shapes of what an invariant reads (profile).
use Rattle.std.specs.Prelude.{ℕ, ℤ, Bool, ◌&&◌, if◌then◌else◌, List, Option, Some, None, Result, Ok, Err, map}
use Rattle.std.specs.List.{list_any}
use Rattle.std.specs.Option.{option_map}
use Rattle.std.specs.Ordering.{int_eq}
use Rattle.ioa_operators.specs.Shapes.{PlainShape, sequences}
use Rattle.ioa_terms.specs.declared.name.Name.{Name}
use Rattle.ioa_terms.specs.declared.name.Name.TheVariants.{Word, Variable, Queue}
use Rattle.ioa_source.specs.declared.declaration.Channel.{Channel}
use Rattle.ioa_system.specs.Parts.{Parts, message_shape, variable_named}
use Rattle.ioa_system.specs.Systems.{program_numbered}
use Rattle.ioa_refusals.specs.declared.refusal.Refusal.{Refusal}
use Rattle.ioa_refusals.specs.declared.refusal.Refusal.TheVariants.{Unknown}
use Rattle.ioa_sorts.specs.Statements.{all_ok}

-- whether a channel is the one from node i to node j
abbrev pub is_channel : ℤ → ℤ → Channel → Bool
is_channel i j c = int_eq c.from i && int_eq c.to j

-- the declared shape of a state variable of a node, if the node has one of that name
abbrev pub variable_shape : List ℕ → Option Parts → Option PlainShape
variable_shape x None = None
variable_shape x (Some p) = option_map (λ v. v.declared.shape) (variable_named x p.automaton.variables)

-- the shape of a queue: sequences of the messages that the receiver takes
abbrev pub queue_shape : Option Parts → Option PlainShape
queue_shape None = None
queue_shape (Some p) = option_map sequences (message_shape p.automaton.rules)

-- the shape of what is read, if these are the programs of the nodes and these the channels: `x@k` is a state variable
-- of node k, and `queue(i, j)` what waits on the channel from node i to node j
abbrev pub reading_shape : List Parts → List Channel → Name → Option PlainShape
reading_shape ps cs (Word w) = None
reading_shape ps cs (Variable x k) = variable_shape x (program_numbered k ps)
reading_shape ps cs (Queue i j) =
    if list_any (is_channel i j) cs then queue_shape (program_numbered j ps) else None

-- a shape, if it is there
abbrev pub shape_or : Option PlainShape → Result PlainShape Refusal
shape_or None = Err Unknown
shape_or (Some s) = Ok s

-- the shapes of several
abbrev pub reading_shapes : List Parts → List Channel → List Name → Result (List PlainShape) Refusal
reading_shapes ps cs xs = all_ok (map (λ x. shape_or (reading_shape ps cs x)) xs)
