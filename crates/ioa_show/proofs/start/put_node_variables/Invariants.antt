use Rattle.std.proofs.Common.{◌≡◌, drop, map}
use Rattle.ioa_source.specs.TextView.{variable_of}
use Rattle.ioa_paper.specs.Papers.{and_text}
use Rattle.ioa_show.specs.Behind.{behind_all, listed_behind}
use Rattle.ioa_show.specs.Start.{variables_told}
use Rattle.ioa_show.proofs.start.put_node_variables.Given as goal

-- what is written so far, and then the variables that are left
abbrev pub invariant-loop-position : goal.invariant-loop-position
invariant-loop-position g l = record {
  text : and_text l.paper (listed_behind l.has_some (variables_told l.names l.node (drop l.position l.values) (map variable_of (drop l.position l.variables))))
      ≡ and_text l.initial.paper (listed_behind l.behind (variables_told l.names l.node l.values (map variable_of l.variables)));
  behind : behind_all l.has_some (variables_told l.names l.node (drop l.position l.values) (map variable_of (drop l.position l.variables)))
      ≡ behind_all l.behind (variables_told l.names l.node l.values (map variable_of l.variables));
}
