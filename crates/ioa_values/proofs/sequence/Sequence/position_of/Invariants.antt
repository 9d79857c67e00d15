use Rattle.std.proofs.Common.{◌≡◌, drop}
use Rattle.std.specs.List.{position_from}
use Rattle.ioa_values.specs.DataOrder.{same}
use Rattle.ioa_values.proofs.sequence.Sequence.position_of.Given as goal

-- no item gone by is the value
abbrev pub invariant-loop-position : goal.invariant-loop-position
invariant-loop-position l =
    position_from (same l.value) l.position (drop l.position l.self) ≡ position_from (same l.value) 0 l.self
