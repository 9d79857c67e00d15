-- Whether two shapes are of one sort (profile).
use Rattle.std.specs.Prelude.{Bool, true, false, ◌&&◌, ◌==◌, nat_eq}
use lib.Pointwise.{pointwise}
use Rattle.ioa_operators.specs.Shapes.{PlainShape, truths, integers, naturals, constants, tuples, sequences, sets, maps}

-- tuple types are compared by name: a text declares each once, so that types of one name have the same fields
abbrev pub same_sort : PlainShape → PlainShape → Bool
same_sort truths truths = true
same_sort integers integers = true
same_sort naturals naturals = true
same_sort (constants w k m) (constants v l n) = pointwise nat_eq w v && (k == l && m == n)
same_sort (tuples w ns ss) (tuples v ms ts) = pointwise nat_eq w v
same_sort (sequences s) (sequences t) = same_sort s t
same_sort (sets s) (sets t) = same_sort s t
same_sort (maps k v) (maps l w) = same_sort k l && same_sort v w
same_sort a b = false
