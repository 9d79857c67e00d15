-- What the start of a system is (Lynch 8.1, 8.2 and 14.1).
use Rattle.std.specs.Prelude.{◌≡◌, Bool, true, false, ◌&&◌, List, [], Some, map}
use Rattle.std.specs.List.{AllByRecursion, IsDistinct, list_all, list_any}
use Rattle.std.specs.Ordering.{int_eq}
use Rattle.ioa_actions.specs.declared.component.Component.{Component}
use Rattle.ioa_actions.specs.declared.component.Component.TheVariants as component
use Rattle.ioa_actions.specs.declared.component.ChannelKind.{ChannelKind}
use Rattle.ioa_actions.specs.declared.component.ChannelKind.TheVariants.{Ordered}
use Rattle.ioa_source.specs.declared.declaration.Channel.{Channel}
use Rattle.ioa_system.specs.Declarations.{has_node}
use Rattle.ioa_system.specs.Parts.{Parts}
use Rattle.ioa_system.specs.Systems.{ScriptParts, SystemParts}
use Rattle.ioa_compose.specs.declared.configuration.Conf.{Conf}
use Rattle.ioa_compose.specs.declared.configuration.Conf.TheVariants.{Node, Queue}
use Rattle.ioa_transitions.specs.NodeState.{node_state}
use Rattle.ioa_channels.specs.declared.queue.Item.{Item}
use Rattle.ioa_channels.specs.declared.queue.Item.TheVariants.{Stimulus}
use Rattle.ioa_channels.specs.Queues.{queue_state}
use Rattle.ioa_actions.specs.ComponentOrder.{same_component}
use Rattle.ioa_compose.specs.Composition.{component_names, find_conf}

-- whether a component is one of a system: a node or its script, of which there is a program, or a declared channel
abbrev pub is_component_of : SystemParts → Component → Bool
is_component_of s (component.Node k) = has_node s.programs k
is_component_of s (component.Channel i j) = list_any (λ c. int_eq c.from i && int_eq c.to j) s.channels
is_component_of s (component.Script k) = has_node s.programs k

-- a component starts with a queue of this kind, which has these items
abbrev pub StartsWith : List Conf → Component → ChannelKind → List Item → Type 0
StartsWith cs k o items = find_conf k cs ≡ Some (Queue (queue_state k o items))

-- a declared channel starts with an empty queue of its kind
abbrev pub StartsEmpty : List Conf → Channel → Type 0
StartsEmpty cs c = StartsWith cs (component.Channel c.from c.to) c.kind []

-- the queue of a declared script starts with its stimuli, in order
abbrev pub StartsScripted : List Conf → ScriptParts → Type 0
StartsScripted cs c = StartsWith cs (component.Script c.node) Ordered (map Stimulus c.stimuli)

-- the script of a node starts empty if none of these is of that node
abbrev pub StartsUnscripted : List ScriptParts → List Conf → Parts → Type 0
StartsUnscripted scripts cs p =
    list_any (λ c. int_eq c.node p.node) scripts ≡ false → StartsWith cs (component.Script p.node) Ordered []

-- a node starts with its program and the initial values of its variables
abbrev pub StartsInitial : List Conf → Parts → Type 0
StartsInitial cs p = find_conf (component.Node p.node) cs ≡ Some (Node (node_state p p.initial))

-- the start of a system
pub record IsStart (s : SystemParts) (cs : List Conf) : Type 0 where
  -- no component is there twice (Lynch 8.2)
  pub once : IsDistinct same_component (component_names cs)
  -- each node has its program and its initial values (Lynch 8.1)
  pub nodes : AllByRecursion (StartsInitial cs) s.programs
  -- the queue of each declared channel is empty and of its kind (Lynch 14.1)
  pub channels : AllByRecursion (StartsEmpty cs) s.channels
  -- each declared script has its stimuli, and those of the other nodes are empty (profile)
  pub scripts : AllByRecursion (StartsScripted cs) s.scripts
  pub no_scripts : AllByRecursion (StartsUnscripted s.scripts cs) s.programs
  -- there is no other component
  pub no_other : list_all (is_component_of s) (component_names cs) ≡ true
