use Rattle.std.proofs.Common.{◌≡◌, map, take}
use Rattle.ioa_values.specs.Text.{text, with_commas}
use Rattle.ioa_paper.specs.Papers.{and_text}
use Rattle.ioa_paper.proofs.actions.put_listed.Given as goal

-- what is written so far are the values gone by
abbrev pub invariant-loop-position : goal.invariant-loop-position
invariant-loop-position g l =
    l.paper ≡ and_text l.initial.paper (with_commas (map (text l.names) (take l.position l.values)))
