-- A part of a text as it is shown to people (profile): its line behind the line's number, and carets below it.
use Rattle.std.specs.Prelude.{ℕ, ◌-◌, ◌==◌, ◌++◌, List, [], ◌∷◌, length, codes, max, if◌then◌else◌}
use Rattle.std.specs.Fmt.{decimal, is_char_start}
use Rattle.std.specs.List.{repeat}
use Rattle.ioa_place.specs.declared.picture.TheConstants.{NUMBER_WIDTH}
use Rattle.ioa_place.specs.Lines.{line_at, line_before, place_at, width_of}

-- a line behind its number, which stands at the right of its room
abbrev pub numbered_line : ℕ → List ℕ → List ℕ
numbered_line number line =
    let digits = decimal number in
    repeat (NUMBER_WIDTH - length digits) (codes " ") ++ (digits ++ (codes " | " ++ (line ++ codes "\n")))

-- as much room with no number
abbrev pub margin : ℕ → List ℕ
margin number = repeat (max NUMBER_WIDTH (length (decimal number))) (codes " ") ++ codes " | "

-- a tab for a tab, a blank for another character, and nothing for a byte that goes on with one
abbrev pub blank_of : ℕ → List ℕ
blank_of c = if c == 9 then codes "\t" else (if is_char_start c then codes " " else [])

abbrev pub blanks : List ℕ → List ℕ
blanks [] = []
blanks (c ∷ more) = blank_of c ++ blanks more

-- carets, behind as much room as a text takes
abbrev pub caret_line : ℕ → List ℕ → ℕ → List ℕ
caret_line number before carets =
    margin number ++ (blanks before ++ (repeat carets (codes "^") ++ codes "\n"))

-- the line of an offset, and below it carets from the offset up to the end, at least one
unfoldable pub picture : List ℕ → ℕ → ℕ → List ℕ
picture text offset end =
    let number = (place_at text offset).line in
    numbered_line number (line_at text offset)
    ++ caret_line number (line_before text offset) (max 1 (width_of text offset end))
