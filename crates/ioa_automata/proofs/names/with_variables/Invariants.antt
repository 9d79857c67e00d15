use Rattle.std.proofs.Common.{◌≡◌, map, drop}
use Rattle.ioa_source.specs.TextView.{variable_of}
use Rattle.ioa_names.specs.NameTables.{with_names}
use Rattle.ioa_automata.specs.NamesInView.{variable_shapes}
use Rattle.ioa_automata.proofs.names.with_variables.Given as goal

-- all names are those so far with those that are left
abbrev pub invariant-loop-variable : goal.invariant-loop-variable
invariant-loop-variable l =
    with_names l.fn.table (variable_shapes (map variable_of l.variables.items))
    ≡ with_names l.table (variable_shapes (map variable_of (drop l.variable-index l.variable-items)))
