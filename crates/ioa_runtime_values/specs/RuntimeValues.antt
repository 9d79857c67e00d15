-- The values that the runtime has (profile).
use Rattle.std.specs.Prelude.{◌<◌, ◌^◌, List, length}
use Rattle.std.specs.List.{AllByRecursion}
use Rattle.ioa_values.specs.Canonical.{AllCanonical, IsCanonical}
use Rattle.ioa_values.specs.Data.{Data}
use Rattle.ioa_actions.specs.ActionParts.{action_arguments}
use Rattle.ioa_transitions.specs.Entries.{PlainEntry}
use Rattle.ioa_channels.specs.declared.queue.Item.{Item}
use Rattle.ioa_channels.specs.declared.queue.Item.TheVariants.{Message, Stimulus}
use Rattle.ioa_compose.specs.declared.configuration.Conf.{Conf}
use Rattle.ioa_compose.specs.declared.configuration.Conf.TheVariants.{Node, Queue}
use Rattle.ioa_printed_lines.specs.TextSystems.{IsBounded}

-- the numbers in an entry, in its key and in its value, lie in 64 bits, at any depth
abbrev pub IsBoundedEntry : Data × Data → Type 0
IsBoundedEntry p = IsBounded p.0 × IsBounded p.1

-- values of the runtime: numbers lie in 64 bits, and sets and maps ascend, at any depth
pub record AreRuntimeValues (vs : List Data) : Type 0 where
  pub bounded : AllByRecursion IsBounded vs
  pub canonical : AllCanonical vs

-- the arguments of an entry's action, and the values that its effect chose, are such values
pub record HasRuntimeValues (e : PlainEntry) : Type 0 where
  pub arguments : AreRuntimeValues (action_arguments e.action)
  pub chosen : AreRuntimeValues e.chosen

-- a message is such a value; nothing is said of a stimulus
abbrev pub IsRuntimeItem : Item → Type 0
IsRuntimeItem (Message m) = IsBounded m × IsCanonical m
IsRuntimeItem (Stimulus a) = Unit {0}

-- the messages of a queue are such values, and it has as many items as the runtime counts
pub record IsRuntimeQueue (items : List Item) : Type 0 where
  pub messages : AllByRecursion IsRuntimeItem items
  pub few : length items < 2 ^ 64

-- the values of a node's variables are such values, and so are the messages of a queue
abbrev pub IsRuntimeConf : Conf → Type 0
IsRuntimeConf (Node c) = AreRuntimeValues c.variables
IsRuntimeConf (Queue q) = IsRuntimeQueue q.items

-- the same of each of several configurations
abbrev pub AreRuntimeConfs : List Conf → Type 0
AreRuntimeConfs cs = AllByRecursion IsRuntimeConf cs
