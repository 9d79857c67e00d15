use Rattle.std.proofs.Common.{◌≡◌, ◌++◌, Ok, map, drop}
use Rattle.ioa_values.specs.Outcome.{and_then}
use Rattle.ioa_source.specs.TextView.{declared_of}
use Rattle.ioa_types.specs.TypeTables.{field_shapes}
use Rattle.ioa_types.proofs.types.Types.field_shapes.Given as goal

-- all shapes are those so far and then those of the fields that are left
abbrev pub invariant-loop-field : goal.invariant-loop-field
invariant-loop-field l =
    field_shapes l.self (map declared_of l.fields.items)
    ≡ and_then (field_shapes l.self (map declared_of (drop l.field-index l.field-items))) (λ ss. Ok (l.shapes ++ ss))
