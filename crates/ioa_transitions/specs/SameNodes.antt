-- Whether two configurations of nodes are the same (profile).
use Rattle.std.specs.Prelude.{Bool, ◌&&◌}
use lib.Pointwise.{pointwise}
use Rattle.ioa_values.specs.DataOrder.{same}
use Rattle.ioa_system.specs.SameParts.{same_program}
use Rattle.ioa_transitions.specs.NodeState.{NodeState}

-- two configurations of nodes are the same if their values and their programs are
abbrev pub same_node : NodeState → NodeState → Bool
same_node c d = pointwise same c.variables d.variables && same_program c.program d.program
