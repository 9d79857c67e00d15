use Rattle.std.proofs.Common.{◌≡◌, drop}
use Rattle.ioa_values.specs.Collections.{keys_of, values_of}
use Rattle.ioa_values.specs.Data.{items_of}
use Rattle.ioa_operators.specs.Shapes.{have_shapes, all_have, shapes_of, wide_shape_if, wide_shapes_if}
use Rattle.ioa_operators.proofs.shape.+admitting.Given as goal

-- the values and entries gone by have their shapes
abbrev pub invariant-each_fits-loop-position : goal.invariant-each_fits-loop-position
invariant-each_fits-loop-position l =
    have_shapes (wide_shapes_if l.negative (shapes_of l.shapes.items)) (items_of l.values.items)
    ≡ have_shapes (wide_shapes_if l.negative (shapes_of (drop l.position l.shapes.items))) (items_of (drop l.position l.values.items))

abbrev pub invariant-all_items_fit-loop-position : goal.invariant-all_items_fit-loop-position
invariant-all_items_fit-loop-position l =
    all_have (wide_shape_if l.negative l.shape) (items_of l.items)
    ≡ all_have (wide_shape_if l.negative l.shape) (items_of (drop l.position l.items))

abbrev pub invariant-all_members_fit-loop-position : goal.invariant-all_members_fit-loop-position
invariant-all_members_fit-loop-position l =
    all_have (wide_shape_if l.negative l.shape) (items_of l.members)
    ≡ all_have (wide_shape_if l.negative l.shape) (items_of (drop l.position l.members))

abbrev pub invariant-all_keys_fit-loop-position : goal.invariant-all_keys_fit-loop-position
invariant-all_keys_fit-loop-position l =
    all_have (wide_shape_if l.negative l.shape) (items_of (keys_of l.entries))
    ≡ all_have (wide_shape_if l.negative l.shape) (items_of (drop l.position (keys_of l.entries)))

abbrev pub invariant-all_values_fit-loop-position : goal.invariant-all_values_fit-loop-position
invariant-all_values_fit-loop-position l =
    all_have (wide_shape_if l.negative l.shape) (items_of (values_of l.entries))
    ≡ all_have (wide_shape_if l.negative l.shape) (items_of (drop l.position (values_of l.entries)))
