use Rattle.std.proofs.Common.{rules, arith}
use Rattle.ioa_operators.proofs.Falls.{most_shapes}
use Rattle.ioa_operators.proofs.shape.Shape.+letting_go.Goals as goal

-- the shapes of the fields are lower than that of their tuple type
pub drop-requires-3 : goal.drop-requires-3
drop-requires-3 t c κs =
    (((grind (arith, most_shapes), tt), tt), (λ a h. search rules, λ a h. search rules))
