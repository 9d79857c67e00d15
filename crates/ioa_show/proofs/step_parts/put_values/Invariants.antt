use Rattle.std.proofs.Common.{◌≡◌, take}
use Rattle.ioa_paper.specs.Papers.{and_text}
use Rattle.ioa_show.specs.Steps.{values_told}
use Rattle.ioa_show.proofs.step_parts.put_values.Given as goal

-- what is written so far are the values gone by
abbrev pub invariant-loop-position : goal.invariant-loop-position
invariant-loop-position g l =
    l.paper ≡ and_text l.initial.paper (values_told l.names (take l.position l.values))
