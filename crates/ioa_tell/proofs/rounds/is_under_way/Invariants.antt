use Rattle.std.specs.Prelude.{⊤}
use Rattle.ioa_tell.proofs.rounds.is_under_way.Given as goal

-- nothing is known of the nodes gone by
abbrev pub invariant-loop-position : goal.invariant-loop-position
invariant-loop-position g l = ⊤
