use Rattle.std.proofs.Common.{◌≡◌}
use Rattle.ioa_names.proofs.readings.all_declared.Given as goal

-- each shape that the loop took is declared
abbrev pub invariant-loop-shape : goal.invariant-loop-shape
invariant-loop-shape l = l.declared.items ≡ l.yielded
