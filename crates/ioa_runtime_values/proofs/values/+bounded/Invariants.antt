use Rattle.std.proofs.Common.{take}
use Rattle.std.specs.List.{AllByRecursion}
use Rattle.ioa_printed_lines.specs.TextSystems.{IsBounded}
use Rattle.ioa_runtime_values.specs.RuntimeValues.{IsBoundedEntry}
use Rattle.ioa_runtime_values.proofs.values.+bounded.Given as goal

-- the values gone by
abbrev pub invariant-bounded_values-loop-value : goal.invariant-bounded_values-loop-value
invariant-bounded_values-loop-value l = AllByRecursion IsBounded (take l.value-index l.values.items)

-- the items gone by
abbrev pub invariant-bounded_items-loop-position : goal.invariant-bounded_items-loop-position
invariant-bounded_items-loop-position l = AllByRecursion IsBounded (take l.position l.items)

-- the members gone by
abbrev pub invariant-bounded_members-loop-position : goal.invariant-bounded_members-loop-position
invariant-bounded_members-loop-position l = AllByRecursion IsBounded (take l.position l.members)

-- the entries gone by
abbrev pub invariant-bounded_entries-loop-position : goal.invariant-bounded_entries-loop-position
invariant-bounded_entries-loop-position l = AllByRecursion IsBoundedEntry (take l.position l.entries)
