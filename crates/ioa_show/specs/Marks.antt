-- The marks of a space-time diagram as SVG (form): the lines of the nodes, the numbers above them, what is said of the
-- invariants, and the dots of the actions.
use Rattle.std.specs.Prelude.{ℕ, zero, suc, ℤ, ◌+◌, ◌-◌, ◌*◌, ◌/◌, ◌%◌, ◌&&◌, max, nat_eq, nat_lt, if◌then◌else◌}
use Rattle.std.specs.Prelude.{Bool, true, false, List, [], ◌∷◌, ◌++◌, codes, length}
use Rattle.std.specs.Fmt.{decimal, signed_decimal}
use Rattle.ioa_actions.specs.ActionParts.{node_of}
use Rattle.ioa_actions.specs.ActionText.{entry_text}
use Rattle.ioa_actions.specs.declared.action.Action.{Action}
use Rattle.ioa_actions.specs.declared.action.Action.TheVariants.{Send, Receive, Local, Stimulus}
use Rattle.ioa_system.specs.Invariants.{InvariantParts}
use Rattle.ioa_system.specs.Parts.{Parts}
use Rattle.ioa_transitions.specs.Entries.{PlainEntry}
use Rattle.ioa_verdicts.specs.Verdicts.{verdict_text}
use Rattle.ioa_verdicts.specs.declared.verdict.Verdict.{Verdict}
use Rattle.ioa_verdicts.specs.declared.verdict.Verdict.TheVariants.{Holds, Fails, Undefined, Range}
use Rattle.ioa_show.specs.Frames.{between, capped, point_of, width, x_of, y_of}
use Rattle.ioa_show.specs.declared.breaks.TheConstants.{HIGH}
use Rattle.ioa_show.specs.declared.frame.Frame.{Frame}
use Rattle.ioa_show.specs.declared.frame.Point.{Point}
use Rattle.ioa_show.specs.declared.frame.TheConstants.{LABEL_END, LINE}
use Rattle.ioa_show.specs.declared.lanes.TheConstants.{APART, LEFT}
use Rattle.ioa_show.specs.declared.memory.TheConstants.{RAN_OUT}

-- the beginning of an attribute, its number, and the quote behind it
abbrev pub attribute : List ℕ → ℕ → List ℕ
attribute start n = start ++ (decimal n ++ codes "\"")

-- a line of a class from one point to another, as far as its last number
unfoldable pub line : List ℕ → Point → Point → List ℕ
line class start end =
    codes "<line class=\"" ++ (class ++ (attribute (codes "\" x1=\"") start.x ++ (attribute (codes " y1=\"") start.y
    ++ (attribute (codes " x2=\"") end.x ++ attribute (codes " y2=\"") end.y))))

-- a point
abbrev pub point : ℕ → ℕ → Point
point x y = record { x = x; y = y }

-- the measures of the whole
unfoldable pub box_words : Frame → List ℕ
box_words f =
    attribute (codes " width=\"") (width f) ++ (attribute (codes " height=\"") f.bottom ++ (codes " viewBox=\"-"
    ++ (decimal f.margin ++ (codes " 0 " ++ (decimal (width f) ++ attribute (codes " ") f.bottom)))))

-- the white ground
unfoldable pub backing : Frame → List ℕ
backing f =
    attribute (codes "<rect x=\"-") f.margin ++ (attribute (codes " width=\"") (width f)
    ++ (attribute (codes " height=\"") f.bottom ++ codes " fill=\"#fff\"/>\n"))

-- a line of a node, which goes through all actions
abbrev pub lane_line : Frame → ℕ → List ℕ
lane_line f y = line (codes "n") (point LEFT y) (point (between f f.count) y) ++ codes "/>\n"

-- the label of a line: the node and its automaton
unfoldable pub label : ℕ → ℤ → List ℕ → List ℕ
label y i x =
    attribute (codes "<text text-anchor=\"end\" x=\"") LABEL_END ++ (attribute (codes " y=\"") (capped (y + 4))
    ++ (codes ">node " ++ (signed_decimal i ++ (codes ": " ++ (x ++ codes "</text>\n")))))

-- the line of a node with its label
abbrev pub lane : Frame → Parts → List ℕ
lane f p = lane_line f (y_of p.node) ++ label (y_of p.node) p.node p.automaton.name

-- the lines of the nodes, node 0 first
abbrev pub lanes : Frame → List Parts → List ℕ
lanes f [] = []
lanes f (p ∷ ps) = lane f p ++ lanes f ps

-- the number of an action above the lines
unfoldable pub tick : Frame → ℕ → List ℕ
tick f k =
    attribute (codes "<text class=\"k\" y=\"12\" x=\"") (x_of f k) ++ (codes ">" ++ (decimal k ++ codes "</text>\n"))

-- how many actions on there is a number again
abbrev pub every : Frame → ℕ
every f = APART / max f.step 1

-- the number of an action, if it is one of those
abbrev pub tick_at : Frame → ℕ → List ℕ
tick_at f k = if nat_lt 0 (every f) && nat_eq (k % every f) 0 then tick f k else []

-- the numbers above so many actions
abbrev pub ticks : Frame → ℕ → List ℕ
ticks f zero = []
ticks f (suc k) = ticks f k ++ tick_at f k

-- an upright in the state behind so many actions
abbrev pub break_line : Frame → ℕ → List ℕ
break_line f k = line (codes "f") (point (between f k) HIGH) (point (between f k) (f.base - LINE)) ++ codes "/>\n"

-- an upright in the first state in which an invariant is not true, if there is one
abbrev pub break_mark : Frame → Verdict → List ℕ
break_mark f Holds = []
break_mark f (Fails k) = break_line f k
break_mark f (Undefined k) = break_line f k
break_mark f (Range k) = break_line f k

-- the class of what is said of an invariant
abbrev pub verdict_class : Verdict → List ℕ
verdict_class Holds = codes "h"
verdict_class (Fails k) = codes "b"
verdict_class (Undefined k) = codes "b"
verdict_class (Range k) = codes "b"

-- where the line on the invariant of a number stands: below the nodes
unfoldable pub break_start : Frame → ℕ → Verdict → List ℕ
break_start f n v =
    codes "<text class=\"" ++ (verdict_class v
    ++ attribute (codes "\" x=\"72\" y=\"") (capped (f.base + capped (n * LINE))))

-- what is said of an invariant
unfoldable pub break_words : List ℕ → Verdict → List ℕ
break_words x v = codes ">invariant " ++ (x ++ (codes " " ++ (verdict_text v ++ codes "</text>\n")))

-- the upright of the invariant of a number, if there is one, and what is said of it
abbrev pub break_at : Frame → ℕ → List ℕ → Verdict → List ℕ
break_at f n x v = break_mark f v ++ (break_start f n v ++ break_words x v)

-- the same of these invariants, counted from n, with their verdicts
abbrev pub breaks : Frame → ℕ → List InvariantParts → List Verdict → List ℕ
breaks f n [] ws = []
breaks f n (v ∷ vs) [] = []
breaks f n (v ∷ vs) (w ∷ ws) = break_at f n v.name w ++ breaks f (n + 1) vs ws

-- where the line stands that says that memory ran out: below so many others
unfoldable pub last_start : Frame → ℕ → List ℕ
last_start f n = attribute (codes "<text class=\"b\" x=\"72\" y=\"") (capped (f.base + capped (n * LINE)))

-- that line
unfoldable pub last_line : Frame → ℕ → List ℕ
last_line f n = last_start f n ++ (codes ">" ++ (RAN_OUT.now ++ codes "</text>\n"))

-- the same, if memory ran out
abbrev pub last_mark : Bool → Frame → ℕ → List ℕ
last_mark true f n = last_line f n
last_mark false f n = []

-- what stands below the lines of the nodes: what is said of each invariant, and then that memory ran out, if it did
abbrev pub below : Frame → List InvariantParts → List Verdict → List ℕ
below f vs ws = breaks f 0 vs ws ++ last_mark f.is_short f (length ws)

-- the class of the dot of an action: of messages, of a node alone, or of an input that a script puts in
abbrev pub action_class : Action → List ℕ
action_class (Send m i j) = codes "d"
action_class (Receive m i j) = codes "d"
action_class (Local a) = codes "l"
action_class (Stimulus a) = codes "i"

-- the dot of the action at a position at its node, as far as its title
unfoldable pub dot_mark : Frame → ℕ → Action → List ℕ
dot_mark f k a =
    codes "<circle class=\"" ++ (action_class a
    ++ (attribute (codes "\" cx=\"") (point_of f k (node_of a)).x
    ++ (attribute (codes " cy=\"") (point_of f k (node_of a)).y ++ codes " r=\"3\"")))

-- the title of a dot: the position of the action, and its text with what its effect chose
unfoldable pub dot_title : List (List ℕ) → ℕ → PlainEntry → List ℕ
dot_title names k e =
    codes "><title>" ++ (decimal k ++ (codes " " ++ (entry_text names e.action e.chosen
    ++ codes "</title></circle>\n")))

-- the dot of the entry at a position
abbrev pub dot : Frame → List (List ℕ) → ℕ → PlainEntry → List ℕ
dot f names k e = dot_mark f k e.action ++ dot_title names k e

-- the dots of the entries, counted from k
abbrev pub dots : Frame → List (List ℕ) → ℕ → List PlainEntry → List ℕ
dots f names k [] = []
dots f names k (e ∷ more) = dot f names k e ++ dots f names (k + 1) more
