use Rattle.std.proofs.Common.{◌≡◌, ◌++◌}
use Rattle.ioa_names.proofs.readings.ReadNames.into_vec.Given as goal

-- the names that the loop took, and those that are left
abbrev pub invariant-loop-name : goal.invariant-loop-name
invariant-loop-name l = l.all.items ++ l.name-iterator ≡ l.fn.self
