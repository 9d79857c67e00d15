-- The messages of a space-time diagram as SVG (form).
use Rattle.std.specs.Prelude.{ℕ, ℤ, ◌+◌, ◌-◌, ◌/◌, int_lt, if◌then◌else◌, List, [], ◌∷◌, ◌++◌, codes}
use Rattle.std.specs.Prelude.{Option, Some, None, slice_get}
use Rattle.std.specs.Fmt.{decimal}
use Rattle.ioa_values.specs.Data.{Data}
use Rattle.ioa_values.specs.Text.{text}
use Rattle.ioa_actions.specs.ActionParts.{receive_name, send_name}
use Rattle.ioa_actions.specs.ActionText.{chosen_text, entry_text, message_text}
use Rattle.ioa_actions.specs.declared.action.Action.{Action}
use Rattle.ioa_actions.specs.declared.action.Action.TheVariants.{Send, Receive, Local, Stimulus}
use Rattle.ioa_transitions.specs.Entries.{PlainEntry, entry}
use Rattle.ioa_show.specs.Frames.{capped, point_of}
use Rattle.ioa_show.specs.Marks.{line, point}
use Rattle.ioa_show.specs.Matching.{partner_at}
use Rattle.ioa_show.specs.declared.arrows.TheConstants.{WAY}
use Rattle.ioa_show.specs.declared.arrows.Way.{Way}
use Rattle.ioa_show.specs.declared.frame.Frame.{Frame}
use Rattle.ioa_show.specs.declared.frame.Point.{Point}

-- what the effect of the entry at a position chose, if there is one there
abbrev pub chosen_of : Option PlainEntry → List Data
chosen_of None = []
chosen_of (Some e) = e.chosen

abbrev pub chosen_at : ℕ → List PlainEntry → List Data
chosen_at k entries = chosen_of (slice_get entries k)

-- a position, and a send or a receive of a name, with what its effect chose
abbrev pub numbered : List (List ℕ) → ℕ → List ℕ → List ℕ → Way → List Data → List ℕ
numbered names k name message w vs =
    decimal k ++ (codes " " ++ (message_text name message w.from w.to ++ chosen_text names vs))

-- the title of an arrow: the lines of the send, which chose the values vs, and of the receive, which chose us
unfoldable pub arrow_title : List (List ℕ) → List ℕ → Way → List Data → List Data → List ℕ
arrow_title names message w vs us =
    codes "><title>" ++ (numbered names w.start send_name message w vs ++ (codes " ; "
    ++ (numbered names w.end receive_name message w us ++ codes "</title></line>\n")))

-- the arrow of a message: from its send at the node that sends it to its receive at the node that receives it
abbrev pub arrow : Frame → List (List ℕ) → List ℕ → Way → List Data → List Data → List ℕ
arrow f names message w vs us =
    line (codes "m") (point_of f w.start w.from) (point_of f w.end w.to) ++ arrow_title names message w vs us

-- where the line of a message ends that is not received: a little behind its send, towards its receiver
abbrev pub lost_end : Point → ℤ → ℤ → Point
lost_end p i j = point (capped (p.x + WAY / 2)) (if int_lt j i then p.y - WAY else capped (p.y + WAY))

-- the title of a message that is not received: the line of its send
unfoldable pub lost_title : List (List ℕ) → ℕ → PlainEntry → List ℕ
lost_title names k e =
    codes "><title>" ++ (decimal k ++ (codes " " ++ (entry_text names e.action e.chosen
    ++ codes " ; not received</title></line>\n")))

-- a message that is not received
abbrev pub lost : Frame → List (List ℕ) → ℕ → PlainEntry → ℤ → ℤ → List ℕ
lost f names k e i j =
    line (codes "u") (point_of f k i) (lost_end (point_of f k i) i j) ++ lost_title names k e

-- a message at its send at position k: nothing if it is received
abbrev pub sent : Frame → List (List ℕ) → ℕ → Option ℕ → PlainEntry → ℤ → ℤ → List ℕ
sent f names k None e i j = lost f names k e i j
sent f names k (Some r) e i j = []

-- a message at its receive at position k, whose effect chose these values, if its send is known, which is one of these
-- entries
abbrev pub received : Frame → List (List ℕ) → List PlainEntry → ℕ → Option ℕ → List ℕ → List Data → ℤ → ℤ → List ℕ
received f names entries k None message vs i j = []
received f names entries k (Some s) message vs i j =
    arrow f names message (record { from = i; to = j; start = s; end = k }) (chosen_at s entries) vs

-- what the action at position k of these entries, which has this partner and whose effect chose these values, has of a
-- message
abbrev pub message_at : Frame → List (List ℕ) → List PlainEntry → ℕ → Option ℕ → Action → List Data → List ℕ
message_at f names entries k p (Send m i j) vs = sent f names k p (entry (Send m i j) vs) i j
message_at f names entries k p (Receive m i j) vs = received f names entries k p (text names m) vs i j
message_at f names entries k p (Local a) vs = []
message_at f names entries k p (Stimulus a) vs = []

-- the messages of those of these entries that are left, counted from k, with their partners
abbrev pub arrows : Frame → List (List ℕ) → List PlainEntry → List (Option ℕ) → ℕ → List PlainEntry → List ℕ
arrows f names entries ps k [] = []
arrows f names entries ps k (e ∷ more) =
    message_at f names entries k (partner_at k ps) e.action e.chosen ++ arrows f names entries ps (k + 1) more
