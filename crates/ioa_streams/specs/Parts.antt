-- The two parts of an input (profile): a text, and behind a line that is a mark the lines of another.
use Rattle.std.specs.Prelude.{ℕ, ◌+◌, ◌==◌, Bool, true, ◌&&◌, ◌||◌, not, if◌then◌else◌, List, [], ◌∷◌, take, drop, codes}
use Rattle.std.specs.Prelude.{Option, Some, None}
use Rattle.std.specs.List.{after_first, take_while}
use Rattle.std.specs.Str.{bytes_eq}

-- a line goes on up to the line feed
abbrev pub is_in_line : ℕ → Bool
is_in_line c = not (c == 10)

-- the mark between the parts: `---`, a carriage return at the end of its line aside
abbrev pub is_mark : List ℕ → Bool
is_mark line = bytes_eq line (codes "---") || bytes_eq line (codes "---\r")

-- where the first line begins that is the mark, if there is one, of a text that begins at a place, and with a line of
-- its own if `fresh` is true
abbrev pub mark_from : Bool → ℕ → List ℕ → Option ℕ
mark_from fresh place [] = None
mark_from fresh place (c ∷ more) =
    if fresh && is_mark (take_while is_in_line (c ∷ more)) then Some place else mark_from (c == 10) (place + 1) more

abbrev pub mark_in : List ℕ → Option ℕ
mark_in input = mark_from true 0 input

-- the text: what stands before the mark, with the line feed before it; all of the input if there is no mark
abbrev pub text_before : Option ℕ → List ℕ → List ℕ
text_before None input = input
text_before (Some place) input = take place input

abbrev pub text_part : List ℕ → List ℕ
text_part input = text_before (mark_in input) input

-- the lines: what stands behind the line feed at the end of the mark; nothing if there is no mark
abbrev pub lines_behind : Option ℕ → List ℕ → List ℕ
lines_behind None input = []
lines_behind (Some place) input = after_first (λ c. c == 10) (drop place input)

abbrev pub lines_part : List ℕ → List ℕ
lines_part input = lines_behind (mark_in input) input
