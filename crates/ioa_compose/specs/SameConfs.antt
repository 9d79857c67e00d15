-- Whether two configurations are the same (profile).
use Rattle.std.specs.Prelude.{Bool, false}
use Rattle.ioa_compose.specs.declared.configuration.Conf.{Conf}
use Rattle.ioa_compose.specs.declared.configuration.Conf.TheVariants.{Node, Queue}
use Rattle.ioa_transitions.specs.SameNodes.{same_node}
use Rattle.ioa_channels.specs.SameQueues.{same_queue}

-- two configurations are the same if they are of one kind, and their parts are the same
abbrev pub same_conf : Conf → Conf → Bool
same_conf (Node c) (Node d) = same_node c d
same_conf (Node c) (Queue r) = false
same_conf (Queue q) (Node d) = false
same_conf (Queue q) (Queue r) = same_queue q r
