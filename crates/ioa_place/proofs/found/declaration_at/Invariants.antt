use Rattle.std.proofs.Common.{◌≡◌, ◌≤◌, take}
use Rattle.std.specs.List.{count_by}
use Rattle.ioa_place.specs.Found.{begins}
use Rattle.ioa_place.proofs.found.declaration_at.Given as goal

-- so many declarations begin among the tokens that were passed, and not more than the index
abbrev pub invariant-loop-position : goal.invariant-loop-position
invariant-loop-position l = (l.before ≡ count_by begins (take l.position l.tokens)) × (l.before ≤ l.index)
