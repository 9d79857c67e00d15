-- A value is canonical if its parts are and its members or keys ascend.
use Rattle.std.proofs.Common.{List, [], ◌∷◌}
use Rattle.ioa_values.specs.Data.{Data, Items, Entries, no_items, item, no_entries, entry, finite_set, finite_map, list_of, pairs_of, items_of, entries_of}
use Rattle.ioa_values.specs.Collections.{IsAscending, keys_of}
use Rattle.ioa_values.specs.Canonical.{IsCanonical, AreCanonical, AreCanonicalEntries, AllCanonical, AllEntriesCanonical}
use Rattle.ioa_values.specs.ValueForm.{data_of, IsCanonicalForm}
use Rattle.ioa_values.specs.declared.value.ValueForm.{ValueForm}
use Rattle.ioa_values.specs.declared.value.ValueForm.TheVariants.{Number, Truth, Constant, Tuple, Sequence, Set, Map}
use Rattle.ioa_values.proofs.ItemLists.{list_of_items, pairs_of_entries}

-- canonical items are a list of canonical values, and back
pub all_items : (ds : Items) → AreCanonical ds → AllCanonical (list_of ds)
all_items no_items h = tt
all_items (item d ds) h = (h.0, all_items ds h.1)

pub items_all : (ds : List Data) → AllCanonical ds → AreCanonical (items_of ds)
items_all [] h = tt
items_all (d ∷ ds) h = (h.0, items_all ds h.1)

pub all_entries : (es : Entries) → AreCanonicalEntries es → AllEntriesCanonical (pairs_of es)
all_entries no_entries h = tt
all_entries (entry k v es) h = (h.0, all_entries es h.1)

pub entries_all : (es : List (Data × Data)) → AllEntriesCanonical es → AreCanonicalEntries (entries_of es)
entries_all [] h = tt
entries_all (p ∷ es) h = (h.0, entries_all es h.1)

-- sets and maps made of lists
pub made_set : (ds : List Data) → IsAscending ds → AllCanonical ds → IsCanonical (finite_set (items_of ds))
made_set ds a h = (rw (list_of_items ds) a, items_all ds h)

pub made_map : (es : List (Data × Data)) → IsAscending (keys_of es) → AllEntriesCanonical es → IsCanonical (finite_map (entries_of es))
made_map es a h = (rw (pairs_of_entries es) a, entries_all es h)

-- a value, by its form
pub of_form : (n : ValueForm) → IsCanonicalForm n → IsCanonical (data_of n)
of_form (Number n) h = tt
of_form (Truth b) h = tt
of_form (Constant k) h = tt
of_form (Tuple v) h = items_all v.value.items h
of_form (Sequence ds) h = items_all ds h
of_form (Set ds) h = made_set ds h.0 h.1
of_form (Map es) h = made_map es h.0 h.1
