-- What the receivers of messages take (profile).
use Rattle.std.specs.Prelude.{ℤ, List, Option, None}
use Rattle.std.specs.Option.{option_and_then}
use Rattle.ioa_operators.specs.Shapes.{PlainShape}
use Rattle.ioa_actions.specs.declared.component.Component.TheVariants as component
use Rattle.ioa_system.specs.Parts.{message_shape}
use Rattle.ioa_compose.specs.Composition.{find_conf}
use Rattle.ioa_compose.specs.declared.configuration.Conf.{Conf}
use Rattle.ioa_compose.specs.declared.configuration.Conf.TheVariants.{Node, Queue}

-- the shape of the messages that a component takes, if it is a node whose automaton takes messages
abbrev pub conf_takes : Conf → Option PlainShape
conf_takes (Node c) = message_shape c.program.automaton.rules
conf_takes (Queue q) = None

-- the shape of the messages that node j takes, among these components: it is that of the messages of each channel to
-- the node
abbrev pub taken_shape : List Conf → ℤ → Option PlainShape
taken_shape cs j = option_and_then conf_takes (find_conf (component.Node j) cs)
