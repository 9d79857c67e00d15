use Rattle.std.proofs.Common.{◌≡◌, length}
use Rattle.ioa_culprit.proofs.readings.shapes_of.Given as goal

-- each name so far has a shape
abbrev pub invariant-loop-name : goal.invariant-loop-name
invariant-loop-name l = length l.shapes.items ≡ l.name-index
