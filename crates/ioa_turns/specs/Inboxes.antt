-- The inboxes of a node among the configurations (profile): what waits on the channels to it (Lynch 14.1).
use Rattle.std.specs.Prelude.{ℤ, if◌then◌else◌, List, [], ◌∷◌, ◌++◌, Option, Some, None, is_some}
use Rattle.std.specs.Ordering.{int_eq}
use Rattle.ioa_values.specs.Data.{Data}
use Rattle.ioa_actions.specs.declared.component.Component.{Component}
use Rattle.ioa_actions.specs.declared.component.Component.TheVariants as component
use Rattle.ioa_terms.specs.Inboxes.{PlainInboxes}
use Rattle.ioa_system.specs.Parts.{Parts, message_shape}
use Rattle.ioa_channels.specs.Queues.{messages_of}
use Rattle.ioa_compose.specs.declared.configuration.Conf.{Conf}
use Rattle.ioa_compose.specs.declared.configuration.Conf.TheVariants.{Node, Queue}

-- what there is, as a list
abbrev pub one_or_none : {A : Type 0} → Option A → List A
one_or_none None = []
one_or_none (Some x) = x ∷ []

-- the inbox of a node that a queue is, if these messages are all that it holds (profile): that of a channel to the node
abbrev pub inbox_of : ℤ → Option (List Data) → Component → PlainInboxes
inbox_of node None k = []
inbox_of node (Some ms) (component.Channel i j) = if int_eq j node then (i, ms) ∷ [] else []
inbox_of node (Some ms) (component.Node i) = []
inbox_of node (Some ms) (component.Script i) = []

-- what waits for a node on one component (profile)
abbrev pub inbox_at : ℤ → Conf → PlainInboxes
inbox_at node (Node c) = []
inbox_at node (Queue q) = inbox_of node (messages_of q.items) q.component

-- the inboxes of a node, in the order of the configurations (profile)
abbrev pub inboxes_in : ℤ → List Conf → PlainInboxes
inboxes_in node [] = []
inboxes_in node (c ∷ more) = inbox_at node c ++ inboxes_in node more

-- the inboxes that the block of a program sees (profile): those of its node, if the automaton takes messages
abbrev pub inboxes_seen : Parts → List Conf → Option PlainInboxes
inboxes_seen p states = if is_some (message_shape p.automaton.rules) then Some (inboxes_in p.node states) else None
