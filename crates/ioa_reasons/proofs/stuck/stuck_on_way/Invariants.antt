use Rattle.std.proofs.Common.{◌≡◌}
use Rattle.ioa_turns.specs.Sights.{sight_of}
use Rattle.ioa_reasons.proofs.stuck.stuck_on_way.Given as goal

-- what the block sees stays
abbrev pub invariant-loop-taken : goal.invariant-loop-taken
invariant-loop-taken l = sight_of l.steps ≡ sight_of l.initial.steps
