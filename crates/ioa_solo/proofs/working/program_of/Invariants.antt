use Rattle.std.proofs.Common.{◌≡◌, map, drop}
use Rattle.std.specs.Arc.{arc_value}
use Rattle.ioa_solo.specs.Works.{program_of}
use Rattle.ioa_solo.proofs.working.program_of.Given as goal

-- what is found from here on is what is found
abbrev pub invariant-loop-program : goal.invariant-loop-program
invariant-loop-program l = program_of l.node (map arc_value (drop l.program-index l.program-items)) ≡ program_of l.node l.system.programs
