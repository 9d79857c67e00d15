use Rattle.std.proofs.Common.{◌≡◌, ◌++◌, map, drop}
use Rattle.ioa_source.specs.TextView.{variable_of}
use Rattle.ioa_system.specs.InView.{variable_names}
use Rattle.ioa_automata.proofs.schedules.variable_words.Given as goal

-- all names are those so far and then those that are left
abbrev pub invariant-loop-variable : goal.invariant-loop-variable
invariant-loop-variable l =
    variable_names (map variable_of l.variables.items)
    ≡ l.names.items ++ variable_names (map variable_of (drop l.variable-index l.variable-items))
