use Rattle.std.proofs.Common.{◌≡◌, ◌++◌, Ok, drop, length}
use Rattle.ioa_values.specs.Outcome.{and_then}
use Rattle.ioa_invariants.specs.ReadShapes.{reading_shapes}
use Rattle.ioa_invariants.proofs.shapes.reading_shapes.Given as goal

-- all shapes are those so far and then those of the names that are left
abbrev pub invariant-loop-name : goal.invariant-loop-name
invariant-loop-name l = record {
  all : reading_shapes l.programs l.channels l.names
      ≡ and_then (reading_shapes l.programs l.channels (drop l.name-index l.names)) (λ ss. Ok (l.shapes.items ++ ss));
  many : length l.shapes.items ≡ l.name-index;
}
