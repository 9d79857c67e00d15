-- Steps of components, over numbers without bound (Lynch 8.1 and 14.1).
use Rattle.ioa_compose.specs.declared.configuration.Conf.{Conf}
use Rattle.ioa_compose.specs.declared.configuration.Conf.TheVariants.{Node, Queue}
use Rattle.ioa_transitions.specs.Entries.{PlainEntry}
use Rattle.ioa_transitions.specs.NodeStep.{IsNodeStep, FitsNodeStep}
use Rattle.ioa_channels.specs.QueueSteps.{IsQueueStep}

-- a step of a component from one configuration to another: of a node, or of a queue
abbrev pub IsStep : PlainEntry → Conf → Conf → Type 0
IsStep e (Node c) (Node d) = IsNodeStep e c d
IsStep e (Node c) (Queue r) = ⊥
IsStep e (Queue q) (Node d) = ⊥
IsStep e (Queue q) (Queue r) = IsQueueStep e.action q r

-- every number that a step of a component meets lies within 64 bits (profile)
abbrev pub FitsStep : PlainEntry → Conf → Type 0
FitsStep e (Node c) = FitsNodeStep e c
FitsStep e (Queue q) = Unit {0}
