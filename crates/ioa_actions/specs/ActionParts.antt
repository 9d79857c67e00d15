-- What an action has: its name, its node, its arguments and its message (Lynch 8.1 and 14.1); and the input, and the
-- output or internal action, that a name and arguments give at a node (profile).
use Rattle.std.specs.Prelude.{ℕ, ℤ, if◌then◌else◌, List, [], ◌∷◌, Option, Some, None, nat_eq}
use Rattle.std.specs.Option.{option_and_then, option_map}
use lib.Pointwise.{pointwise}
use Rattle.ioa_values.specs.Data.{Data, number, as_number}
use Rattle.ioa_actions.specs.declared.action.TheConstants.{SEND, RECEIVE}
use Rattle.ioa_actions.specs.declared.action.NodeAction.{NodeAction}
use Rattle.ioa_actions.specs.declared.action.Action.{Action}
use Rattle.ioa_actions.specs.declared.action.Action.TheVariants.{Send, Receive, Local, Stimulus}

-- the name of all sends, and that of all receives (Lynch 14.1)
abbrev pub send_name : List ℕ
send_name = SEND.now

abbrev pub receive_name : List ℕ
receive_name = RECEIVE.now

-- the name of an action
abbrev pub action_name : Action → List ℕ
action_name (Send m i j) = send_name
action_name (Receive m i j) = receive_name
action_name (Local a) = a.name
action_name (Stimulus a) = a.name

-- the values of an action's arguments
abbrev pub action_arguments : Action → List Data
action_arguments (Send m i j) = m ∷ number i ∷ number j ∷ []
action_arguments (Receive m i j) = m ∷ number i ∷ number j ∷ []
action_arguments (Local a) = a.arguments
action_arguments (Stimulus a) = a.arguments

-- the node of an action: the sender of a send, and the receiver of a receive
abbrev pub node_of : Action → ℤ
node_of (Send m i j) = i
node_of (Receive m i j) = j
node_of (Local a) = a.node
node_of (Stimulus a) = a.node

-- the message of a send or a receive
abbrev pub message_of : Action → Option Data
message_of (Send m i j) = Some m
message_of (Receive m i j) = Some m
message_of (Local a) = None
message_of (Stimulus a) = None

-- a message and the two ends of its channel, if the arguments are these
abbrev pub message_and_ends : List Data → Option (Data × ℤ × ℤ)
message_and_ends (m ∷ x ∷ y ∷ []) =
    option_and_then (λ i. option_map (λ j. (m, i, j)) (as_number y)) (as_number x)
message_and_ends _ = None

-- the action of node k with this name and these arguments
abbrev pub node_action : ℤ → List ℕ → List Data → NodeAction
node_action k name vs = record { node = k; name = name; arguments = vs }

-- the input of node k with this name and these arguments, which are a message and its ends, or are not
abbrev pub input_by : ℤ → List ℕ → List Data → Option (Data × ℤ × ℤ) → Action
input_by k name vs None = Stimulus (node_action k name vs)
input_by k name vs (Some (m, i, j)) =
    if pointwise nat_eq name receive_name then Receive m i j else Stimulus (node_action k name vs)

-- the input that a name and arguments give at node k: a receive, or else a stimulus
abbrev pub input_at : ℤ → List ℕ → List Data → Action
input_at k name vs = input_by k name vs (message_and_ends vs)

-- the output or internal action of node k with this name and these arguments, which are a message and its ends, or are
-- not
abbrev pub locally_controlled_by : ℤ → List ℕ → List Data → Option (Data × ℤ × ℤ) → Action
locally_controlled_by k name vs None = Local (node_action k name vs)
locally_controlled_by k name vs (Some (m, i, j)) =
    if pointwise nat_eq name send_name then Send m i j else Local (node_action k name vs)

-- the output or internal action that a name and arguments give at node k: a send, or else a local action
abbrev pub locally_controlled_at : ℤ → List ℕ → List Data → Action
locally_controlled_at k name vs = locally_controlled_by k name vs (message_and_ends vs)
