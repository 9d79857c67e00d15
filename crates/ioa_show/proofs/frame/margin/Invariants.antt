use Rattle.std.proofs.Common.{◌≡◌, drop, map}
use Rattle.std.specs.Prelude.{max}
use Rattle.std.specs.Arc.{arc_value}
use Rattle.ioa_show.specs.Frames.{longest}
use Rattle.ioa_show.proofs.frame.margin.Given as goal

-- the longest name so far, and those that are left
abbrev pub invariant-loop-program : goal.invariant-loop-program
invariant-loop-program l =
    max l.longest (longest (map arc_value (drop l.program-index l.programs))) ≡ longest (map arc_value l.programs)
