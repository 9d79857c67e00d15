use Rattle.std.proofs.Common.{◌≡◌, drop, []}
use Rattle.ioa_operators.specs.Shapes.{shapes_of}
use Rattle.ioa_value_reader.specs.Reading.{read_parts}
use Rattle.ioa_lines.proofs.arguments.listed_values.Given as goal

-- what is left is read behind what is done as the whole is
abbrev pub invariant-loop-shape : goal.invariant-loop-shape
invariant-loop-shape l =
    read_parts l.names (shapes_of l.shapes.items) [] l.fn.tokens
    ≡ read_parts l.names (shapes_of (drop l.shape-index l.shapes.items)) l.done.items l.tokens
