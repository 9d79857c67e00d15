-- When each value at a node has its declared shape, and each message under way the shape that its receiver takes
-- (profile).
use Rattle.std.specs.Prelude.{◌≡◌, ℤ, true, List, [], ◌∷◌, Option, Some, None, slice_get}
use Rattle.std.specs.List.{AllByRecursion, AllZip, Contains}
use Rattle.ioa_values.specs.Data.{Data}
use Rattle.ioa_operators.specs.Shapes.{PlainShape, integers, sequences, maps, has_shape}
use Rattle.ioa_actions.specs.ActionParts.{receive_name}
use Rattle.ioa_actions.specs.declared.component.Component.{Component}
use Rattle.ioa_actions.specs.declared.component.Component.TheVariants as component
use Rattle.ioa_source.specs.PlainText.{named}
use Rattle.ioa_source.specs.Sides.{CheckedDeclared, CheckedVariable}
use Rattle.ioa_source.specs.declared.declaration.Channel as declaration
use Rattle.ioa_system.specs.Parts.{Parts, PlainRule}
use Rattle.ioa_system.specs.Systems.{SystemParts}
use Rattle.ioa_system.specs.Systems.{program_numbered}
use Rattle.ioa_system.specs.Parts.{rule_named}
use Rattle.ioa_transitions.specs.NodeState.{NodeState}
use Rattle.ioa_channels.specs.declared.queue.Item.{Item}
use Rattle.ioa_channels.specs.declared.queue.Item.TheVariants.{Message, Stimulus}
use Rattle.ioa_compose.specs.declared.configuration.Conf.{Conf}
use Rattle.ioa_compose.specs.declared.configuration.Conf.TheVariants.{Node, Queue}

-- a value has the shape of a parameter
abbrev pub FitsParameter : CheckedDeclared → Data → Type 0
FitsParameter p v = has_shape p.shape v ≡ true

-- a value has the shape of a state variable
abbrev pub FitsVariable : CheckedVariable → Data → Type 0
FitsVariable x v = has_shape x.declared.shape v ≡ true

-- the inboxes that a block sees have their shape: a map from the numbers of nodes to sequences of messages of the shape
-- that the automaton takes; where it takes none, the block sees none
abbrev pub FitInboxes : Option PlainShape → List Data → Type 0
FitInboxes None [] = Unit {0}
FitInboxes None (d ∷ ds) = ⊥
FitInboxes (Some s) [] = ⊥
FitInboxes (Some s) (d ∷ []) = has_shape (maps integers (sequences s)) d ≡ true
FitInboxes (Some s) (d ∷ e ∷ ds) = ⊥

-- a configuration of a node of a system: its program is one of the system's, and each parameter and each state variable
-- of its automaton has a value of the declared shape
pub record IsShapedNode (s : SystemParts) (c : NodeState) : Type 0 where
  pub program : Contains s.programs c.program
  pub arguments : AllZip FitsParameter c.program.automaton.parameters c.program.arguments
  pub variables : AllZip FitsVariable c.program.automaton.variables c.variables

-- a message has the shape that the node of a number receives: that of the first parameter of `receive` there, which is
-- no constant
pub record IsMessageTo (s : SystemParts) (j : ℤ) (m : Data) : Type 0 where
  pub receiver : Parts
  pub to : program_numbered j s.programs ≡ Some receiver
  pub input : PlainRule
  pub found : rule_named receive_name receiver.automaton.rules ≡ Some input
  pub parameter : CheckedDeclared
  pub first : slice_get input.entry.parameters 0 ≡ Some (named parameter)
  pub fits : FitsParameter parameter m

-- what is under way to a node are messages alone
abbrev pub IsItemTo : SystemParts → ℤ → Item → Type 0
IsItemTo s j (Message m) = IsMessageTo s j m
IsItemTo s j (Stimulus a) = ⊥

-- the queue of a channel from one node to another: the channel is declared, and the queue has messages to that node
pub record IsShapedChannel (s : SystemParts) (i j : ℤ) (items : List Item) : Type 0 where
  pub channel : declaration.Channel
  pub declared : Contains s.channels channel
  pub from : channel.from ≡ i
  pub to : channel.to ≡ j
  pub messages : AllByRecursion (IsItemTo s j) items

-- a queue of a component: no node has one, and of scripts nothing is said
abbrev pub IsShapedQueue : SystemParts → Component → List Item → Type 0
IsShapedQueue s (component.Node k) items = ⊥
IsShapedQueue s (component.Channel i j) items = IsShapedChannel s i j items
IsShapedQueue s (component.Script k) items = Unit {0}

-- a configuration of either, and each of several
abbrev pub IsShapedConf : SystemParts → Conf → Type 0
IsShapedConf s (Node c) = IsShapedNode s c
IsShapedConf s (Queue q) = IsShapedQueue s q.component q.items

abbrev pub AreShaped : SystemParts → List Conf → Type 0
AreShaped s cs = AllByRecursion (IsShapedConf s) cs
