-- Sorts as texts spell them (form), by what they mean: a sort that names a type is told by the name of the type.
use Rattle.std.specs.Prelude.{ℕ, List, ◌++◌, codes}
use Rattle.ioa_operators.specs.Shapes.{PlainShape, truths, integers, naturals, constants, tuples, sequences, sets, maps}

abbrev pub sort_text : PlainShape → List ℕ
sort_text truths = codes "Bool"
sort_text integers = codes "Int"
sort_text naturals = codes "Nat"
sort_text (constants type from many) = type
sort_text (tuples type names fields) = type
sort_text (sequences s) = codes "Seq[" ++ (sort_text s ++ codes "]")
sort_text (sets s) = codes "Set[" ++ (sort_text s ++ codes "]")
sort_text (maps k v) = codes "Map[" ++ (sort_text k ++ (codes ", " ++ (sort_text v ++ codes "]")))
