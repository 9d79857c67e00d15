use Rattle.std.proofs.Common.{◌≡◌, drop, map}
use Rattle.ioa_source.specs.TextView.{variable_of}
use Rattle.ioa_paper.specs.Papers.{and_text}
use Rattle.ioa_show.specs.States.{variable_fields}
use Rattle.ioa_show.proofs.state_parts.put_variables.Given as goal

-- what is written so far, and then the variables that are left
abbrev pub invariant-loop-position : goal.invariant-loop-position
invariant-loop-position g l =
    and_text l.paper (variable_fields l.names l.node (drop l.position l.values) (map variable_of (drop l.position l.variables)))
    ≡ and_text l.initial.paper (variable_fields l.names l.node l.values (map variable_of l.variables))
