-- The start of a system (Lynch 8.1, 8.2 and 14.1).
use Rattle.std.specs.Prelude.{List, [], ◌++◌, Option, Some, None, map}
use Rattle.ioa_actions.specs.declared.action.NodeAction.{NodeAction}
use Rattle.ioa_actions.specs.declared.component.Component.TheVariants as component
use Rattle.ioa_actions.specs.declared.component.ChannelKind.TheVariants.{Ordered}
use Rattle.ioa_source.specs.declared.declaration.Channel.{Channel}
use Rattle.ioa_compose.specs.declared.configuration.Conf.{Conf}
use Rattle.ioa_compose.specs.declared.configuration.Conf.TheVariants.{Node, Queue}
use Rattle.ioa_transitions.specs.NodeState.{node_state}
use Rattle.ioa_system.specs.Parts.{Parts}
use Rattle.ioa_channels.specs.Queues.{queue_state}
use Rattle.ioa_channels.specs.declared.queue.Item.TheVariants.{Stimulus}
use Rattle.ioa_system.specs.Systems.{ScriptParts, SystemParts, script_of}

-- a node starts with the initial values of its variables
abbrev pub node_start : Parts → Conf
node_start p = Node (node_state p p.initial)

-- a channel starts empty, with the kind that is declared
abbrev pub channel_start : Channel → Conf
channel_start c = Queue (queue_state (component.Channel c.from c.to) c.kind [])

-- the stimuli of a script, if one is declared
abbrev pub stimuli_in : Option ScriptParts → List NodeAction
stimuli_in None = []
stimuli_in (Some s) = s.stimuli

-- the script of a node starts with the stimuli that are declared for the node, in order
abbrev pub script_start : List ScriptParts → Parts → Conf
script_start scripts p =
    Queue (queue_state (component.Script p.node) Ordered (map Stimulus (stimuli_in (script_of p.node scripts))))

-- the start configurations: nodes by number, channels in the order of their declaration, scripts by number
abbrev pub start : SystemParts → List Conf
start s = map node_start s.programs ++ map channel_start s.channels ++ map (script_start s.scripts) s.programs
