-- Actions as text (profile): `send(m, i, j)`, `receive(m, i, j)`, and `a(v, w)@k` or `a@k` for all others. Values that
-- an effect chose stand behind: `a@k choose v, w`.
use Rattle.std.specs.Prelude.{ℕ, ℤ, List, [], ◌∷◌, ◌++◌, map, codes}
use Rattle.std.specs.Fmt.{signed_decimal}
use Rattle.ioa_values.specs.Data.{Data}
use Rattle.ioa_values.specs.Text.{text, with_commas}
use Rattle.ioa_actions.specs.ActionParts.{send_name, receive_name}
use Rattle.ioa_actions.specs.declared.action.NodeAction.{NodeAction}
use Rattle.ioa_actions.specs.declared.action.Action.{Action}
use Rattle.ioa_actions.specs.declared.action.Action.TheVariants.{Send, Receive, Local, Stimulus}

-- arguments in round brackets with commas between, or nothing if there are none
abbrev pub arguments_text : List (List ℕ) → List Data → List ℕ
arguments_text names [] = []
arguments_text names (v ∷ vs) = codes "(" ++ with_commas (map (text names) (v ∷ vs)) ++ codes ")"

-- an action of one node: its name, its arguments, and its node
abbrev pub node_action_text : List (List ℕ) → NodeAction → List ℕ
node_action_text names a = a.name ++ (arguments_text names a.arguments ++ (codes "@" ++ signed_decimal a.node))

-- a send or a receive: its name, and in round brackets the message's text and the two nodes
abbrev pub message_text : List ℕ → List ℕ → ℤ → ℤ → List ℕ
message_text name message i j =
    name ++ (codes "(" ++ (message ++ (codes ", " ++ (signed_decimal i
    ++ (codes ", " ++ (signed_decimal j ++ codes ")"))))))

-- an action
abbrev pub action_text : List (List ℕ) → Action → List ℕ
action_text names (Send m i j) = message_text send_name (text names m) i j
action_text names (Receive m i j) = message_text receive_name (text names m) i j
action_text names (Local a) = node_action_text names a
action_text names (Stimulus a) = node_action_text names a

-- what an effect chose, behind its action; nothing if it chose nothing
abbrev pub chosen_text : List (List ℕ) → List Data → List ℕ
chosen_text names [] = []
chosen_text names (v ∷ vs) = codes " choose " ++ with_commas (map (text names) (v ∷ vs))

-- an action with what its effect chose
abbrev pub entry_text : List (List ℕ) → Action → List Data → List ℕ
entry_text names a vs = action_text names a ++ chosen_text names vs
