-- The tokens that an action is printed as, each behind its gap, in front of others.
use Rattle.std.proofs.Common.{◌≡◌, ℕ, ℤ, List, [], ◌∷◌, ◌++◌, codes, map, refl, ap, ◌∙◌, append_assoc}
use Rattle.std.specs.Fmt.{signed_decimal}
use Rattle.ioa_values.specs.Data.{Data, number, items_of}
use Rattle.ioa_values.specs.Text.{text, texts, with_commas}
use Rattle.ioa_tokens.specs.declared.mark.Mark.TheVariants as mark
use Rattle.ioa_tokens.specs.declared.token.Token.TheVariants as token
use Rattle.ioa_tokens.specs.declared.written.Gap.{Gap}
use Rattle.ioa_tokens.specs.declared.written.Gap.TheVariants as gap
use Rattle.ioa_tokens.specs.Tables.{mark_text, signs, reserved}
use Rattle.ioa_tokens.specs.Written.{gap_text}
use Rattle.ioa_actions.specs.ActionParts.{send_name, receive_name}
use Rattle.ioa_actions.specs.ActionText.{action_text, arguments_text, message_text, node_action_text}
use Rattle.ioa_actions.specs.declared.action.NodeAction.{NodeAction}
use Rattle.ioa_actions.specs.declared.action.Action.{Action}
use Rattle.ioa_actions.specs.declared.action.Action.TheVariants.{Send, Receive, Local, Stimulus}
use Rattle.ioa_printed_lines.proofs.WrittenLines.{line_text}
use Rattle.ioa_printed_lines.proofs.ValuePieces.{Pieces, number_pieces, number_written, items_pieces, items_written, bracketed}

-- arguments between round brackets
abbrev pub bracket_pieces : List (List ℕ) → List Data → Pieces → Pieces
bracket_pieces names vs rest = (gap.Joined, token.Mark mark.OpenRound) ∷ items_pieces names (items_of vs) ((gap.Joined, token.Mark mark.CloseRound) ∷ rest)

-- the same, or nothing if there are none
abbrev pub arguments_pieces : List (List ℕ) → List Data → Pieces → Pieces
arguments_pieces names [] rest = rest
arguments_pieces names (v ∷ vs) rest = bracket_pieces names (v ∷ vs) rest

-- an action of one node
abbrev pub at_node_pieces : List (List ℕ) → Gap → NodeAction → Pieces → Pieces
at_node_pieces names g a rest = (g, token.Word a.name) ∷ arguments_pieces names a.arguments ((gap.Joined, token.Mark mark.AtSign) ∷ number_pieces gap.Joined a.node rest)

-- an action
abbrev pub action_pieces : List (List ℕ) → Gap → Action → Pieces → Pieces
action_pieces names g (Send m i j) rest = (g, token.Word send_name) ∷ bracket_pieces names (m ∷ number i ∷ number j ∷ []) rest
action_pieces names g (Receive m i j) rest = (g, token.Word receive_name) ∷ bracket_pieces names (m ∷ number i ∷ number j ∷ []) rest
action_pieces names g (Local a) rest = at_node_pieces names g a rest
action_pieces names g (Stimulus a) rest = at_node_pieces names g a rest

-- the texts of a list of values
pub texts_listed : (names : List (List ℕ)) (vs : List Data) → texts names (items_of vs) ≡ map (text names) vs
texts_listed names [] = refl
texts_listed names (v ∷ vs) = ap (λ ts. text names v ∷ ts) (texts_listed names vs)

-- the text of arguments between round brackets
bracket_written : (names : List (List ℕ)) (vs : List Data) (rest : Pieces) → line_text (bracket_pieces names vs rest) ≡ (codes "(" ++ with_commas (map (text names) vs) ++ codes ")") ++ line_text rest
unfolding mark_text signs reserved
bracket_written names vs rest =
    ap (λ l. codes "(" ++ l) (items_written names (items_of vs) ((gap.Joined, token.Mark mark.CloseRound) ∷ rest) ∙ ap (λ ts. with_commas ts ++ (codes ")" ++ line_text rest)) (texts_listed names vs))
    ∙ bracketed [] (codes "(") (with_commas (map (text names) vs)) (codes ")") (line_text rest)

-- the text of arguments, or nothing if there are none
arguments_written : (names : List (List ℕ)) (vs : List Data) (rest : Pieces) → line_text (arguments_pieces names vs rest) ≡ arguments_text names vs ++ line_text rest
arguments_written names [] rest = refl
arguments_written names (v ∷ vs) rest = bracket_written names (v ∷ vs) rest

-- the text of a message
message_joined : (name message i j after : List ℕ) → name ++ ((codes "(" ++ ((message ++ codes ", ") ++ ((i ++ codes ", ") ++ j)) ++ codes ")") ++ after) ≡ (name ++ (codes "(" ++ (message ++ (codes ", " ++ (i ++ (codes ", " ++ (j ++ codes ")"))))))) ++ after
message_joined name message i j after = simp append_assoc

message_written : (names : List (List ℕ)) (g : Gap) (name : List ℕ) (m : Data) (i j : ℤ) (rest : Pieces) → line_text ((g, token.Word name) ∷ bracket_pieces names (m ∷ number i ∷ number j ∷ []) rest) ≡ gap_text g ++ (message_text name (text names m) i j ++ line_text rest)
message_written names g name m i j rest =
    ap (λ l. gap_text g ++ (name ++ l)) (bracket_written names (m ∷ number i ∷ number j ∷ []) rest)
    ∙ ap (λ l. gap_text g ++ l) (message_joined name (text names m) (signed_decimal i) (signed_decimal j) (line_text rest))

-- the text of an action of one node
at_node_joined : (name arguments node after : List ℕ) → name ++ (arguments ++ (codes "@" ++ (node ++ after))) ≡ (name ++ (arguments ++ (codes "@" ++ node))) ++ after
at_node_joined name arguments node after = simp append_assoc

at_node_written : (names : List (List ℕ)) (g : Gap) (a : NodeAction) (rest : Pieces) → line_text (at_node_pieces names g a rest) ≡ gap_text g ++ (node_action_text names a ++ line_text rest)
unfolding mark_text signs reserved
at_node_written names g a rest =
    ap (λ l. gap_text g ++ (a.name ++ l)) (arguments_written names a.arguments ((gap.Joined, token.Mark mark.AtSign) ∷ number_pieces gap.Joined a.node rest))
    ∙ ap (λ l. gap_text g ++ (a.name ++ (arguments_text names a.arguments ++ (codes "@" ++ l)))) (number_written gap.Joined a.node rest)
    ∙ ap (λ l. gap_text g ++ l) (at_node_joined a.name (arguments_text names a.arguments) (signed_decimal a.node) (line_text rest))

-- the text of an action
pub action_written : (names : List (List ℕ)) (g : Gap) (a : Action) (rest : Pieces) → line_text (action_pieces names g a rest) ≡ gap_text g ++ (action_text names a ++ line_text rest)
action_written names g (Send m i j) rest = message_written names g send_name m i j rest
action_written names g (Receive m i j) rest = message_written names g receive_name m i j rest
action_written names g (Local a) rest = at_node_written names g a rest
action_written names g (Stimulus a) rest = at_node_written names g a rest
