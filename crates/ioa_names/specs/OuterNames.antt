-- The first names in view, as a contract sees them (view).
use Rattle.std.specs.Prelude.{◌++◌}
use Rattle.ioa_terms.specs.Sorted.{NameShapes}
use Rattle.ioa_names.specs.declared.outer.Outer.{Outer}
use Rattle.ioa_names.specs.declared.outer.Outer.TheVariants.{Words, Readings, Front}

-- the names with their declared shapes, whatever keeps them
abbrev pub outer_names : Outer → NameShapes
outer_names (Words table) = table.now
outer_names (Readings readings) = readings.now
outer_names (Front front table) = front.now ++ table.now
