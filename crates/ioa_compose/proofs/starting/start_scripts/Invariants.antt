use Rattle.std.proofs.Common.{◌≡◌, ◌++◌, map, take}
use Rattle.std.specs.Arc.{arc_value}
use Rattle.ioa_compose.specs.Start.{script_start}
use Rattle.ioa_compose.proofs.starting.start_scripts.Given as goal

-- what was there, and the starts of what is gone by
abbrev pub invariant-loop-program : goal.invariant-loop-program
invariant-loop-program l = l.confs.items ≡ l.initial.confs.items ++ map (script_start l.system.scripts) (map arc_value (take l.program-index l.program-items))
