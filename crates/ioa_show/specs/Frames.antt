-- Where things stand in a space-time diagram (form), in pixels. Whatever would be above the greatest number that the
-- code has is that number.
use Rattle.std.specs.Prelude.{ℕ, ℤ, pos, negsuc, ◌+◌, ◌-◌, ◌*◌, ◌/◌, ◌^◌, min, max, nat_lt, if◌then◌else◌}
use Rattle.std.specs.Prelude.{Bool, true, false, List, [], ◌∷◌, length}
use Rattle.ioa_system.specs.Invariants.{InvariantParts}
use Rattle.ioa_system.specs.Parts.{Parts}
use Rattle.ioa_system.specs.Systems.{SystemParts}
use Rattle.ioa_show.specs.declared.frame.Frame.{Frame}
use Rattle.ioa_show.specs.declared.frame.Point.{Point}
use Rattle.ioa_show.specs.declared.frame.TheConstants.{AROUND_AUTOMATON, AROUND_INVARIANT, CLOSE_STEP, LABEL_END}
use Rattle.ioa_show.specs.declared.frame.TheConstants.{LETTER, LINE, ROOM, ROW, START, TOP, WIDE_LIMIT, WIDE_STEP}
use Rattle.ioa_show.specs.declared.memory.TheConstants.{RAN_OUT}

-- the number, or the greatest one
abbrev pub capped : ℕ → ℕ
capped n = min n (2 ^ 64 - 1)

-- how far two of so many actions stand apart
abbrev pub step_for : ℕ → ℕ
step_for count = if nat_lt WIDE_LIMIT count then CLOSE_STEP else WIDE_STEP

-- where the state behind so many actions stands
abbrev pub between : Frame → ℕ → ℕ
between f k = capped (START + capped (k * f.step))

-- where the action at a position stands: in the middle between the states before and after it
abbrev pub x_of : Frame → ℕ → ℕ
x_of f k = capped (between f k + f.step / 2)

-- where the line of a number is
abbrev pub row : ℕ → ℕ
row n = capped (capped (n * ROW) + TOP)

-- where the line of a node is
abbrev pub y_of : ℤ → ℕ
y_of (pos n) = row n
y_of (negsuc n) = row 0

-- where the action at a position stands at a node
abbrev pub point_of : Frame → ℕ → ℤ → Point
point_of f k i = record { x = x_of f k; y = y_of i }

-- how wide the diagram is
abbrev pub width : Frame → ℕ
width f = capped (f.margin + f.right)

-- how many pixels a name has with so many letters around it
abbrev pub letters : ℕ → ℕ → ℕ
letters name around = capped (capped (name + around) * LETTER)

-- how long the longest name of an automaton is
abbrev pub longest : List Parts → ℕ
longest [] = 0
longest (p ∷ ps) = max (length p.automaton.name) (longest ps)

-- how many pixels the widest line on an invariant has
abbrev pub widest : List InvariantParts → ℕ
widest [] = 0
widest (v ∷ vs) = max (letters (length v.name) AROUND_INVARIANT) (widest vs)

-- how far the labels of the nodes reach to the left of 0
abbrev pub margin_of : List Parts → ℕ
margin_of ps = letters (longest ps) AROUND_AUTOMATON - LABEL_END

-- where the diagram ends on the right, if its actions and its last line take so many pixels
abbrev pub right_of : List InvariantParts → ℕ → ℕ
right_of vs n = capped (max n (widest vs) + (START + ROOM))

-- how many lines stand below the nodes: one on each invariant, and one that says that memory ran out, if it did
abbrev pub lines : ℕ → Bool → ℕ
lines verdicts true = capped (verdicts + 1)
lines verdicts false = verdicts

-- how many pixels that last line has
abbrev pub last_width : Bool → ℕ
last_width true = letters (length RAN_OUT.now) 0
last_width false = 0

-- the measures for the runs of a system with so many actions, verdicts on so many invariants, and in which memory ran
-- out, if it is short
abbrev pub frame_of : SystemParts → ℕ → ℕ → Bool → Frame
frame_of s count verdicts short = record {
  count = count;
  step = step_for count;
  margin = margin_of s.programs;
  right = right_of s.invariants (max (capped (count * step_for count)) (last_width short));
  base = row (length s.programs);
  bottom = capped (row (length s.programs) + capped (lines verdicts short * LINE));
  is_short = short;
}
