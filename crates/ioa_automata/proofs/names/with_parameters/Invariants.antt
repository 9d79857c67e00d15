use Rattle.std.proofs.Common.{◌≡◌, map, drop}
use Rattle.ioa_source.specs.TextView.{declared_of}
use Rattle.ioa_names.specs.NameTables.{with_names}
use Rattle.ioa_automata.specs.NamesInView.{parameter_shapes}
use Rattle.ioa_automata.proofs.names.with_parameters.Given as goal

-- all names are those so far with those that are left
abbrev pub invariant-loop-parameter : goal.invariant-loop-parameter
invariant-loop-parameter l =
    with_names l.fn.table (parameter_shapes (map declared_of l.parameters.items))
    ≡ with_names l.table (parameter_shapes (map declared_of (drop l.parameter-index l.parameter-items)))
