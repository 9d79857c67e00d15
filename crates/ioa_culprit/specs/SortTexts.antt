-- Sorts that are asked for and found, in words for people (profile).
use Rattle.std.specs.Prelude.{ℕ, ◌++◌, List, Option, Some, None, codes}
use Rattle.std.specs.Fmt.{decimal}
use Rattle.ioa_operators.specs.Shapes.{PlainShape, truths, integers, naturals, constants, tuples}
use Rattle.ioa_operators.specs.Shapes.{sequences, sets, maps}

-- a sort as texts spell it; an enumeration and a tuple type by its name
abbrev pub sort_text : PlainShape → List ℕ
sort_text truths = codes "Bool"
sort_text integers = codes "Int"
sort_text naturals = codes "Nat"
sort_text (constants type from many) = type
sort_text (tuples type names fields) = type
sort_text (sequences s) = codes "Seq[" ++ (sort_text s ++ codes "]")
sort_text (sets s) = codes "Set[" ++ (sort_text s ++ codes "]")
sort_text (maps k v) = codes "Map[" ++ (sort_text k ++ (codes ", " ++ (sort_text v ++ codes "]")))

-- the sort of what is found; a display has none of its own
abbrev pub found_text : Option PlainShape → List ℕ
found_text (Some s) = sort_text s
found_text None = codes "a display"

-- the sorts of two parts, each behind a word
abbrev pub pair_text : List ℕ → Option PlainShape → List ℕ → Option PlainShape → List ℕ
pair_text first left second right = first ++ (found_text left ++ (second ++ found_text right))

-- what is asked for, and the sort of what is found
abbrev pub asked_text : List ℕ → Option PlainShape → List ℕ
asked_text asked found = codes "asked for: " ++ (asked ++ (codes "; found: " ++ found_text found))

-- the sorts of what a choice takes
abbrev pub simple_text : List ℕ
simple_text = codes "Bool, Int, Nat or an enumeration"

-- how many arguments are asked for, and how many are found
abbrev pub count_text : List ℕ → ℕ → ℕ → List ℕ
count_text name asked found =
    codes "number of arguments of `" ++ (name ++ (codes "` asked for: "
    ++ (decimal asked ++ (codes "; found: " ++ decimal found))))
