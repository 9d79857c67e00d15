-- Bounded values of a list are bounded as items.
use Rattle.std.proofs.Common.{List, [], ◌∷◌}
use Rattle.std.specs.List.{AllByRecursion}
use Rattle.ioa_values.specs.Data.{Data, items_of, entries_of}
use Rattle.ioa_printed_lines.specs.TextSystems.{AreBounded, AreEntriesBounded, IsBounded}
use Rattle.ioa_runtime_values.specs.RuntimeValues.{IsBoundedEntry}

pub are_bounded : (vs : List Data) → AllByRecursion IsBounded vs → AreBounded (items_of vs)
are_bounded [] h = tt
are_bounded (v ∷ vs) h = (h.0, are_bounded vs h.1)

pub are_entries_bounded : (es : List (Data × Data)) → AllByRecursion IsBoundedEntry es → AreEntriesBounded (entries_of es)
are_entries_bounded [] h = tt
are_entries_bounded (e ∷ es) h = (h.0, are_entries_bounded es h.1)
