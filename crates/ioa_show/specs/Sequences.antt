-- The sequence diagram of a run for Mermaid (form): its lines in order, each ended by a line feed.
use Rattle.std.specs.Prelude.{ℕ, ℤ, ◌+◌, nat_lt, if◌then◌else◌, List, [], ◌∷◌, ◌++◌, codes, length, map}
use Rattle.std.specs.Prelude.{Bool, true, false, Option, Some, None}
use Rattle.std.specs.Fmt.{decimal, signed_decimal}
use Rattle.ioa_values.specs.Data.{Data}
use Rattle.ioa_values.specs.Text.{text, with_commas}
use Rattle.ioa_actions.specs.ActionText.{arguments_text, chosen_text}
use Rattle.ioa_actions.specs.declared.action.NodeAction.{NodeAction}
use Rattle.ioa_actions.specs.declared.action.Action.{Action}
use Rattle.ioa_actions.specs.declared.action.Action.TheVariants.{Send, Receive, Local, Stimulus}
use Rattle.ioa_system.specs.Parts.{Parts}
use Rattle.ioa_system.specs.Systems.{SystemParts}
use Rattle.ioa_transitions.specs.Entries.{PlainEntry}
use Rattle.ioa_record.specs.declared.ending.Ending.{Ending}
use Rattle.ioa_show.specs.Matching.{partner_at, partners_of}
use Rattle.ioa_show.specs.Memory.{ran_out}
use Rattle.ioa_show.specs.declared.memory.TheConstants.{RAN_OUT}
use Rattle.ioa_show.specs.declared.sequence.TheConstants.{MANY}

-- the first line
unfoldable pub title : List ℕ
title = codes "sequenceDiagram\n"

-- a node with the name of its automaton
unfoldable pub participant_text : ℤ → List ℕ → List ℕ
participant_text i x =
    codes "    participant n" ++ (signed_decimal i ++ (codes " as node " ++ (signed_decimal i
    ++ (codes ": " ++ (x ++ codes "\n")))))

abbrev pub participant_line : Parts → List ℕ
participant_line p = participant_text p.node p.automaton.name

-- the nodes, node 0 first
abbrev pub participant_lines : List Parts → List ℕ
participant_lines [] = []
participant_lines (p ∷ ps) = participant_line p ++ participant_lines ps

-- a note that there are many actions
unfoldable pub many_note : ℕ → List ℕ
many_note count = codes "    Note over n0: " ++ (decimal count ++ codes " actions, which viewers may refuse\n")

-- that note, if there are many
abbrev pub warning : ℕ → List ℕ
warning count = if nat_lt MANY count then many_note count else []

-- the positions of a send, if it is known, and of its receive
abbrev pub positions : Option ℕ → ℕ → List ℕ
positions None k = decimal k ++ codes " "
positions (Some s) k = decimal s ++ (codes "-" ++ (decimal k ++ codes " "))

-- the beginning of a note at a node
unfoldable pub note : ℤ → ℕ → List ℕ
note i k = codes "    Note over n" ++ (signed_decimal i ++ (codes ": " ++ (decimal k ++ codes " ")))

-- from which node to which a message goes
unfoldable pub ends : ℤ → ℤ → List ℕ
ends i j = codes "    n" ++ (signed_decimal i ++ (codes "->>n" ++ (signed_decimal j ++ codes ": ")))

-- a message at its receive
abbrev pub arrow : List (List ℕ) → ℕ → Option ℕ → List ℕ → ℤ → ℤ → List ℕ
arrow names k p message i j = ends i j ++ (positions p k ++ (message ++ codes "\n"))

-- a note on a send whose message is not received; nothing if it is
abbrev pub send_note : ℕ → Option ℕ → List ℕ → ℤ → ℤ → List ℕ
send_note k (Some r) message i j = []
send_note k None message i j =
    note i k ++ (codes "sends " ++ (message ++ (codes " to n" ++ (signed_decimal j ++ codes ", not received\n"))))

-- a note on what the effect of a send or a receive chose at its node; nothing if it chose nothing
abbrev pub choice_note : List (List ℕ) → ℤ → ℕ → List Data → List ℕ
choice_note names i k [] = []
choice_note names i k (v ∷ vs) =
    note i k ++ (codes "choose " ++ (with_commas (map (text names) (v ∷ vs)) ++ codes "\n"))

-- a note on an action of a node, with what its effect chose
abbrev pub action_note : List (List ℕ) → ℕ → NodeAction → List Data → List ℕ
action_note names k a vs =
    note a.node k ++ (a.name ++ (arguments_text names a.arguments ++ (chosen_text names vs ++ codes "\n")))

-- the lines of the action at position k, which has this partner and whose effect chose these values
abbrev pub entry_line : List (List ℕ) → ℕ → Option ℕ → Action → List Data → List ℕ
entry_line names k p (Send m i j) vs = send_note k p (text names m) i j ++ choice_note names i k vs
entry_line names k p (Receive m i j) vs = arrow names k p (text names m) i j ++ choice_note names j k vs
entry_line names k p (Local a) vs = action_note names k a vs
entry_line names k p (Stimulus a) vs = action_note names k a vs

-- the lines of the entries, counted from k, with their partners
abbrev pub entry_lines : List (List ℕ) → List (Option ℕ) → ℕ → List PlainEntry → List ℕ
entry_lines names ps k [] = []
entry_lines names ps k (e ∷ more) =
    entry_line names k (partner_at k ps) e.action e.chosen ++ entry_lines names ps (k + 1) more

-- a note that memory ran out
unfoldable pub last_words : List ℕ
last_words = codes "    Note over n0: " ++ (RAN_OUT.now ++ codes "\n")

-- that note, if it did
abbrev pub last_note : Bool → List ℕ
last_note true = last_words
last_note false = []

-- the whole diagram, if these are the partners of the actions, and with whether memory ran out
abbrev pub sequence_text : SystemParts → List (Option ℕ) → Bool → List PlainEntry → List ℕ
sequence_text s ps short entries =
    title ++ (participant_lines s.programs
    ++ (warning (length entries) ++ (entry_lines s.names ps 0 entries ++ last_note short)))

-- the diagram of a run that left these endings, with the partners of its actions
abbrev pub sequence_of : SystemParts → List PlainEntry → List Ending → List ℕ
sequence_of s entries endings = sequence_text s (partners_of entries) (ran_out endings) entries
