-- How the reader goes through the tokens of a line (profile). They are cut at the first `choose`, which no action
-- holds. The arguments are read by the shapes of their rule, which is a rule of the action's node. That is written at
-- the end of the action, so it is looked for there first. For the values behind `choose` no shape is known.
use Rattle.std.specs.Prelude.{ℕ, ◌+◌, ◌-◌, ℤ, Bool, false, not, ◌||◌, if◌then◌else◌}
use Rattle.std.specs.Prelude.{List, [], ◌∷◌, length, slice_get, take, drop}
use Rattle.std.specs.List.{position_or_len}
use Rattle.std.specs.Prelude.{Option, Some, None}
use Rattle.std.specs.Ordering.{int_eq}
use Rattle.ioa_tokens.specs.declared.token.Token.{Token}
use Rattle.ioa_tokens.specs.declared.token.Token.TheVariants as token
use Rattle.ioa_tokens.specs.declared.mark.Mark.TheVariants as mark
use Rattle.ioa_tokens.specs.Tables.{same_mark}
use Rattle.ioa_cursor.specs.Reading.{Reader, ◌>>=◌, at, at_number, at_word, choose, end, expect, number}
use Rattle.ioa_cursor.specs.Reading.{several_more, skip, word}
use Rattle.ioa_values.specs.Data.{Data}
use Rattle.ioa_operators.specs.Shapes.{PlainShape, constants, integers, shapes_of, truths}
use Rattle.ioa_actions.specs.ActionParts.{input_at, locally_controlled_at, receive_name, send_name}
use Rattle.ioa_actions.specs.declared.action.Action.{Action}
use Rattle.ioa_actions.specs.declared.action.Action.TheVariants.{Send, Receive, Local, Stimulus}
use Rattle.ioa_terms.specs.Bindings.{same_word}
use Rattle.ioa_terms.specs.SameTerms.{same_kind}
use Rattle.ioa_terms.specs.declared.tree.Kind.TheVariants.{Input}
use Rattle.ioa_system.specs.Parts.{PlainRule, rule_named}
use Rattle.ioa_system.specs.Systems.{SystemParts, program_numbered}
use Rattle.ioa_transitions.specs.Entries.{PlainEntry, entry}
use Rattle.ioa_value_reader.specs.Grammar.{minus_amount}
use Rattle.ioa_value_reader.specs.Reading.{read_parts, read_value}
use Rattle.ioa_lines.specs.Grammar.{is_message_name}

-- the token at a place that is counted from the end: the last one is at 1
abbrev pub from_end : ℕ → List Token → Option Token
from_end place xs = slice_get xs (length xs - place)

-- whether a token is there and is the sign `-`
abbrev pub is_minus : Option Token → Bool
is_minus (Some (token.Mark m)) = same_mark m mark.Minus
is_minus (Some (token.Word w)) = false
is_minus (Some (token.Number n)) = false
is_minus (Some (token.LeftOut w)) = false
is_minus None = false

-- the number that a token is, if it is there and is one; behind a `-` it is minus the amount
abbrev pub signed_number : Bool → Option Token → Option ℤ
signed_number minus (Some (token.Number n)) = Some (if minus then minus_amount n else n)
signed_number minus (Some (token.Mark m)) = None
signed_number minus (Some (token.Word w)) = None
signed_number minus (Some (token.LeftOut w)) = None
signed_number minus None = None

-- the number at a place that is counted from the end
unfoldable pub number_at : ℕ → List Token → Option ℤ
number_at place xs = signed_number (is_minus (from_end (place + 1) xs)) (from_end place xs)

-- where the number of the node is behind an action's name: that of a send is the last but one
abbrev pub node_place : List ℕ → List Token → ℕ
node_place w xs =
    if same_word w send_name then (if is_minus (from_end 3 xs) then 5 else 4)
    else if same_word w receive_name then 2 else 1

-- the node of an action of this name, by the end of the tokens behind the name
unfoldable pub node_at_end : List ℕ → List Token → Option ℤ
node_at_end w xs = number_at (node_place w xs) xs

-- ( Value {, Value} ), a value of each of these shapes; nothing if there is no shape
unfoldable pub read_arguments : List (List ℕ) → List PlainShape → Reader (List Data)
read_arguments names [] xs = Some ([], xs)
read_arguments names (s ∷ ss) xs =
    expect mark.OpenRound xs >>= λ o. read_parts names (shapes_of (s ∷ ss)) [] o.1 >>= λ r.
    expect mark.CloseRound r.1 >>= λ c. Some (r.0, c.1)

-- what comes behind the arguments: nothing behind those of a message, otherwise @ and the node
unfoldable pub read_end : Bool → ℤ → Reader (Unit {0})
read_end messages k xs =
    choose messages (end xs)
    (expect mark.AtSign xs >>= λ a. number a.1 >>= λ n. choose (int_eq n.0 k) (end n.1) None)

-- the action that a rule's name and arguments give at node k: an input, or else one that the node controls
abbrev pub action_by : Bool → ℤ → List ℕ → List Data → Action
action_by input k w vs = if input then input_at k w vs else locally_controlled_at k w vs

-- whether an action is of node k, and one of two ends if it has the name of messages
abbrev pub is_written : Bool → ℤ → Action → Bool
is_written messages k (Send m i j) = int_eq i k
is_written messages k (Receive m i j) = int_eq j k
is_written messages k (Local a) = not messages
is_written messages k (Stimulus a) = not messages

-- an action, if it is written so
abbrev pub action_if_written : Bool → ℤ → Action → Option Action
action_if_written messages k a = if is_written messages k a then Some a else None

-- the action of a rule of node k that the tokens behind its name give
unfoldable pub rule_action : List (List ℕ) → ℤ → PlainRule → List Token → Option Action
rule_action names k r xs =
    read_arguments names r.shapes xs >>= λ vs. read_end (is_message_name r.entry.name) k vs.1 >>= λ e.
    action_if_written (is_message_name r.entry.name) k
    (action_by (same_kind r.entry.kind Input) k r.entry.name vs.0)

-- the rule of a name that the program of node k has
unfoldable pub rule_at : SystemParts → ℤ → List ℕ → Option PlainRule
rule_at s k w = program_numbered k s.programs >>= λ p. rule_named w p.automaton.rules

-- the action of a name, by the tokens behind it
unfoldable pub named_action : SystemParts → List ℕ → List Token → Option Action
named_action s w xs =
    node_at_end w xs >>= λ k. rule_at s k w >>= λ r. rule_action s.names k r xs

-- the tokens behind the number that a line may begin with
abbrev pub behind_number : List Token → List Token
behind_number (token.Number n ∷ xs) = xs
behind_number (token.Mark m ∷ xs) = token.Mark m ∷ xs
behind_number (token.Word w ∷ xs) = token.Word w ∷ xs
behind_number (token.LeftOut w ∷ xs) = token.LeftOut w ∷ xs
behind_number [] = []

-- the action that tokens spell, with a number in front or none
unfoldable pub line_action : SystemParts → List Token → Option Action
line_action s xs = word (behind_number xs) >>= λ w. named_action s w.0 w.1

-- whether a token is the word `choose`
abbrev pub is_choose : Token → Bool
is_choose (token.Mark m) = same_mark m mark.Choose
is_choose (token.Word w) = false
is_choose (token.Number n) = false
is_choose (token.LeftOut w) = false

-- where the first `choose` stands; at the end if there is none
abbrev pub choose_place : List Token → ℕ
choose_place xs = position_or_len is_choose xs

-- the tokens in front of the first `choose`, and those from it on
abbrev pub action_tokens : List Token → List Token
action_tokens xs = take (choose_place xs) xs

abbrev pub choice_tokens : List Token → List Token
choice_tokens xs = drop (choose_place xs) xs

-- the shape by which a chosen value is read, which its first token tells: a constant of any enumeration, a number, or
-- else a truth value
unfoldable pub simple_shape : List (List ℕ) → List Token → PlainShape
simple_shape names xs =
    choose (at_word xs) (constants [] 0 (length names)) (choose (at_number xs || at mark.Minus xs) integers truths)

-- a number, a truth value or a constant
abbrev pub read_simple : List (List ℕ) → Reader Data
read_simple names xs = read_value names (simple_shape names xs) xs

-- the values from `choose` on, with commas between and nothing behind; none if there is no token
unfoldable pub read_chosen : List (List ℕ) → List Token → Option (List Data)
read_chosen names [] = Some []
read_chosen names (x ∷ xs) =
    expect mark.Choose (x ∷ xs) >>= λ c. several_more (skip mark.Comma) (read_simple names) [] c.1 >>= λ vs.
    end vs.1 >>= λ e. Some vs.0

-- the entry that the tokens of a line spell
unfoldable pub line_entry : SystemParts → List Token → Option PlainEntry
line_entry s xs =
    line_action s (action_tokens xs) >>= λ a. read_chosen s.names (choice_tokens xs) >>= λ vs. Some (entry a vs)
