use Rattle.std.proofs.Common.{◌≡◌, ◌++◌, Ok, map, drop}
use Rattle.ioa_values.specs.Outcome.{and_then}
use Rattle.ioa_sorts.specs.Statements.{all_ok}
use Rattle.ioa_sections.specs.Scripts.{script_of}
use Rattle.ioa_sections.specs.Sections.{script_behind}
use Rattle.ioa_sections.proofs.scripts.scripts_at.Given as goal

-- all scripts are those so far and then those that are left
abbrev pub invariant-loop-script : goal.invariant-loop-script
invariant-loop-script l =
    all_ok (map (script_of l.ground.constants l.ground.programs) (map script_behind l.declared))
    ≡ and_then (all_ok (map (script_of l.ground.constants l.ground.programs) (map script_behind (drop l.script-index l.declared)))) (λ ss. Ok (l.scripts.items ++ ss))
