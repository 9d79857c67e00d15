use Rattle.std.proofs.Common.{◌≡◌, map, drop}
use Rattle.ioa_source.specs.TextView.{parameter_of}
use Rattle.ioa_names.specs.NameTables.{with_names}
use Rattle.ioa_automata.specs.NamesInView.{own_shapes}
use Rattle.ioa_automata.proofs.names.with_own.Given as goal

-- all names are those so far with those that are left
abbrev pub invariant-loop-parameter : goal.invariant-loop-parameter
invariant-loop-parameter l =
    with_names l.fn.table (own_shapes (map parameter_of l.parameters.items))
    ≡ with_names l.table (own_shapes (map parameter_of (drop l.parameter-index l.parameter-items)))
