-- Lines and columns of a text (profile). They count from 1; a column counts characters, and a tab is one.
use Rattle.std.specs.Prelude.{ℕ, ◌+◌, ◌-◌, ◌==◌, Bool, not, if◌then◌else◌, List, length, take, drop, slice_index}
use Rattle.std.specs.Fmt.{is_char_start}
use Rattle.std.specs.List.{after_last, count_by, take_while}
use Rattle.ioa_place.specs.declared.place.Place.{Place}

abbrev pub is_line_feed : ℕ → Bool
is_line_feed c = c == 10

-- a line goes on up to the line feed
abbrev pub is_in_line : ℕ → Bool
is_in_line c = not (is_line_feed c)

-- how many characters a text has: one begins at each byte that does not go on with one
abbrev pub characters : List ℕ → ℕ
characters text = count_by is_char_start text

-- what stands before an offset in its line: all behind the last line feed before it
abbrev pub line_before : List ℕ → ℕ → List ℕ
line_before text offset = after_last is_line_feed (take offset text)

-- the line is the one behind as many line feeds as stand before the offset, and the column that of the next character
-- behind those that stand before it in its line
abbrev pub place_at : List ℕ → ℕ → Place
place_at text offset =
    record { line = 1 + count_by is_line_feed (take offset text); column = 1 + characters (line_before text offset) }

-- a line without the carriage return at its end, if it has one
abbrev pub without_return : List ℕ → List ℕ
without_return line = if slice_index line (length line - 1) == 13 then take (length line - 1) line else line

-- where the line of an offset begins: behind the last line feed before the offset
abbrev pub line_begin : List ℕ → ℕ → ℕ
line_begin text offset = length (take offset text) - length (line_before text offset)

-- the line of an offset: from where it begins up to the next line feed
abbrev pub line_at : List ℕ → ℕ → List ℕ
line_at text offset = without_return (take_while is_in_line (drop (line_begin text offset) text))

-- the characters from an offset to an end that stand in the line of the offset
abbrev pub width_of : List ℕ → ℕ → ℕ → ℕ
width_of text offset end = characters (take_while is_in_line (drop offset (take end text)))
