use Rattle.std.proofs.Common.{◌≡◌, drop}
use Rattle.ioa_value_reader.specs.Ascent.{ascends_behind}
use Rattle.ioa_value_reader.proofs.ascent.ascends_behind.Given as goal

-- those that are left ascend behind the last one as all do behind the first
abbrev pub invariant-loop-value : goal.invariant-loop-value
invariant-loop-value l = ascends_behind l.last (drop l.value-index l.others) ≡ ascends_behind l.fn.first l.fn.others
