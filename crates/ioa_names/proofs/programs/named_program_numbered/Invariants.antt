use Rattle.std.proofs.Common.{◌≡◌, drop}
use Rattle.ioa_system.specs.Systems.{program_numbered}
use Rattle.ioa_names.proofs.programs.named_program_numbered.Given as goal

-- no program so far has the number
abbrev pub invariant-loop-program : goal.invariant-loop-program
invariant-loop-program l =
    program_numbered l.number l.programs ≡ program_numbered l.number (drop l.program-index l.programs)
