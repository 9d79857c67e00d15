use Rattle.std.proofs.Common.{◌≡◌, ◌++◌, map, drop}
use Rattle.ioa_source.specs.TextView.{parameter_of}
use Rattle.ioa_system.specs.InView.{own_names}
use Rattle.ioa_automata.proofs.rules.own_words.Given as goal

-- all names are those so far and then those that are left
abbrev pub invariant-loop-parameter : goal.invariant-loop-parameter
invariant-loop-parameter l =
    own_names (map parameter_of l.parameters.items)
    ≡ l.names.items ++ own_names (map parameter_of (drop l.parameter-index l.parameter-items))
