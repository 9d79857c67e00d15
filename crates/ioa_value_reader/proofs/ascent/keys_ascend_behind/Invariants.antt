use Rattle.std.proofs.Common.{◌≡◌, drop}
use Rattle.ioa_values.specs.Collections.{keys_of}
use Rattle.ioa_value_reader.specs.Ascent.{ascends_behind}
use Rattle.ioa_value_reader.proofs.ascent.keys_ascend_behind.Given as goal

-- those that are left ascend behind the last one as all do behind the first
abbrev pub invariant-loop-entry : goal.invariant-loop-entry
invariant-loop-entry l =
    ascends_behind l.last (keys_of (drop l.entry-index l.others)) ≡ ascends_behind l.fn.first (keys_of l.fn.others)
