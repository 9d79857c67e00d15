-- When a node takes a message that is under way to it, whatever its state (Lynch 8.1: inputs are enabled).
use Rattle.std.specs.Prelude.{◌≡◌, ℤ, List, [], Some, None, Ok}
use Rattle.std.specs.List.{AllZip, Contains}
use Rattle.ioa_values.specs.Data.{Data}
use Rattle.ioa_terms.specs.Bindings.{Bindings}
use Rattle.ioa_terms.specs.Choices.{left, given}
use Rattle.ioa_terms.specs.Performance.{after}
use Rattle.ioa_actions.specs.ActionParts.{action_arguments}
use Rattle.ioa_actions.specs.declared.action.Action.TheVariants.{Receive}
use Rattle.ioa_actions.specs.declared.component.Component.TheVariants as component
use Rattle.ioa_system.specs.InView.{guard_or_effect}
use Rattle.ioa_system.specs.Parts.{PlainRule}
use Rattle.ioa_compose.specs.Composition.{find_conf}
use Rattle.ioa_transitions.specs.Entries.{entry}
use Rattle.ioa_transitions.specs.NodeState.{NodeState}
use Rattle.ioa_transitions.specs.NodeStep.{HasRule, IsNodeStep, IsOfSort, rule_bindings}
use Rattle.ioa_channels.specs.Queues.{QueueState}
use Rattle.ioa_compose.specs.declared.configuration.Conf.{Conf}
use Rattle.ioa_compose.specs.declared.configuration.Conf.TheVariants.{Node, Queue}
use Rattle.ioa_channels.specs.declared.queue.Item.TheVariants.{Message}

-- a rule of the node's program has the receipt of a message on channel i -> j; its arguments are of their sorts, and
-- there is neither a condition nor a guard (profile). So it is a step of the node if the effect leaves values, whatever
-- values the effect chooses
pub record IsAwaited (c : NodeState) (m : Data) (i j : ℤ) : Type 0 where
  pub rule : PlainRule
  pub mine : HasRule c.program (Receive m i j) rule
  pub sorts : AllZip IsOfSort rule.entry.parameters (action_arguments (Receive m i j))
  pub condition : rule.entry.condition ≡ None
  pub guard : rule.transition.pre ≡ None
  pub enabled : (chosen : List Data) (reached : Bindings)
      → after rule.transition.effect (left (rule_bindings guard_or_effect rule (Receive m i j) c) (given chosen))
      ≡ Ok (left reached (given [])) → (d : NodeState) × IsNodeStep (entry (Receive m i j) chosen) c d

-- each message in the queue of a channel is awaited by the node to which the channel leads
abbrev pub AreMessagesAwaited : List Conf → Type 0
AreMessagesAwaited cs =
    (i j : ℤ) (q : QueueState) (m : Data) (c : NodeState) →
    find_conf (component.Channel i j) cs ≡ Some (Queue q) → Contains q.items (Message m) →
    find_conf (component.Node j) cs ≡ Some (Node c) → IsAwaited c m i j
