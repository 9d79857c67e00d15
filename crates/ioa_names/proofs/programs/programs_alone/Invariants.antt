use Rattle.std.proofs.Common.{◌≡◌, map}
use Rattle.std.specs.Arc.{arc_value}
use Rattle.ioa_names.proofs.programs.programs_alone.Given as goal

-- the programs so far are those that the loop took
abbrev pub invariant-loop-program : goal.invariant-loop-program
invariant-loop-program l = map arc_value l.programs.items ≡ l.yielded
