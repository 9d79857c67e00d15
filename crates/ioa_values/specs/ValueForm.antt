-- What the form of a value in the code means (view), and what every value keeps of it (profile).
use Rattle.ioa_values.specs.Data.{Data, number, truth, constant, tuple, sequence, finite_set, finite_map}
use Rattle.ioa_values.specs.Data.{items_of, entries_of}
use Rattle.ioa_values.specs.Canonical.{AllCanonical, AllEntriesCanonical}
use Rattle.ioa_values.specs.Collections.{IsAscending, keys_of}
use Rattle.ioa_values.specs.declared.value.ValueForm.{ValueForm}
use Rattle.ioa_values.specs.declared.value.ValueForm.TheVariants.{Number, Truth, Constant, Tuple, Sequence, Set, Map}

abbrev pub data_of : ValueForm → Data
data_of (Number n) = number n
data_of (Truth b) = truth b
data_of (Constant k) = constant k
data_of (Tuple v) = tuple (items_of v.value.items)
data_of (Sequence ds) = sequence (items_of ds)
data_of (Set ds) = finite_set (items_of ds)
data_of (Map es) = finite_map (entries_of es)

-- the values inside are canonical, and the members of a set, or the keys of a map, come in ascending order without
-- doubles
abbrev pub IsCanonicalForm : ValueForm → Type 0
IsCanonicalForm (Number n) = Unit {0}
IsCanonicalForm (Truth b) = Unit {0}
IsCanonicalForm (Constant k) = Unit {0}
IsCanonicalForm (Tuple v) = AllCanonical v.value.items
IsCanonicalForm (Sequence ds) = AllCanonical ds
IsCanonicalForm (Set ds) = IsAscending ds × AllCanonical ds
IsCanonicalForm (Map es) = IsAscending (keys_of es) × AllEntriesCanonical es
