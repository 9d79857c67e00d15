-- The test that values ascend (form): each comes before the next one.
use Rattle.std.specs.Prelude.{Bool, true, false, List, [], ◌∷◌}
use Rattle.ioa_values.specs.Data.{Data}
use Rattle.ioa_values.specs.DataOrder.{data_cmp}
use Rattle.ioa_values.specs.Collections.{by_order}

-- whether values ascend that come behind a value
abbrev pub ascends_behind : Data → List Data → Bool
ascends_behind d [] = true
ascends_behind d (x ∷ xs) = by_order (data_cmp d x) (ascends_behind x xs) false false

-- whether values ascend
unfoldable pub ascends : List Data → Bool
ascends [] = true
ascends (d ∷ ds) = ascends_behind d ds
