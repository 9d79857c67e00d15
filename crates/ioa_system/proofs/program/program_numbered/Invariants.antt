use Rattle.std.proofs.Common.{◌≡◌, map, drop}
use Rattle.std.specs.Arc.{arc_value}
use Rattle.ioa_system.specs.Systems.{program_numbered}
use Rattle.ioa_system.proofs.program.program_numbered.Given as goal

-- no program so far has the number
abbrev pub invariant-loop-program : goal.invariant-loop-program
invariant-loop-program l =
    program_numbered l.number (map arc_value l.programs) ≡ program_numbered l.number (map arc_value (drop l.program-index l.programs))
