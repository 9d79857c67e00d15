-- Each part of a value weighs less than the value (form).
use Rattle.std.specs.Prelude.{◌+◌, ◌≤◌, max, List, [], ◌∷◌}
use Rattle.std.proofs.Common.{arith}
use denote.Param.Weighed.{most}
use Rattle.ioa_values.specs.Data.{Data}
use Rattle.ioa_values.specs.ValueForm.{data_of}
use Rattle.ioa_values.specs.Weight.{weight, weights}
use Rattle.ioa_values.specs.declared.value.ValueForm.{ValueForm}
use Rattle.ioa_values.specs.declared.value.ValueForm.TheVariants.{Number, Truth, Constant, Tuple, Sequence, Set, Map}
use Rattle.ioa_values.specs.declared.entry_tree.EntryTree.TheDeep.{deep-ValueForm}

-- of items
pub most-le-weights : (ds : List Data) → most (λ d. weight d + 1) ds ≤ weights ds + 1
most-le-weights [] = omega arith
most-le-weights (d ∷ ds) = omega (arith, most-le-weights ds)

pub deep-le-weight : (n : ValueForm) → max (deep-ValueForm n) 0 ≤ weight (data_of n)
deep-le-weight (Number n) = omega arith
deep-le-weight (Truth b) = omega arith
deep-le-weight (Constant k) = omega arith
deep-le-weight (Tuple v) = omega (arith, most-le-weights v.value.items)
deep-le-weight (Sequence ds) = omega arith
deep-le-weight (Set ds) = omega arith
deep-le-weight (Map es) = omega arith
