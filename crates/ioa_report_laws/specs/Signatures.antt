-- The kinds of actions in the signatures of nodes (Lynch 8.1).
use Rattle.std.specs.Prelude.{◌≡◌, ◌⊎◌, Some}
use Rattle.ioa_actions.specs.ActionParts.{action_name, node_of}
use Rattle.ioa_actions.specs.declared.action.Action.{Action}
use Rattle.ioa_terms.specs.declared.tree.Kind.{Kind}
use Rattle.ioa_terms.specs.declared.tree.Kind.TheVariants.{Input, Output}
use Rattle.ioa_system.specs.Parts.{Parts, PlainRule, rule_named}
use Rattle.ioa_system.specs.Systems.{SystemParts, program_numbered}
use Rattle.ioa_transitions.specs.NodeStep.{IsOfKind}

-- an action is in the signature of its node with this kind: the node's rule of its name is of the kind, and so is the
-- action
pub record IsInSignature (s : SystemParts) (a : Action) (k : Kind) : Type 0 where
  pub program : Parts
  pub placed : program_numbered (node_of a) s.programs ≡ Some program
  pub rule : PlainRule
  pub found : rule_named (action_name a) program.automaton.rules ≡ Some rule
  pub kind : rule.entry.kind ≡ k
  pub of_kind : IsOfKind a k

-- inputs and outputs are external
abbrev pub IsExternal : Kind → Type 0
IsExternal k = (k ≡ Input) ⊎ (k ≡ Output)
