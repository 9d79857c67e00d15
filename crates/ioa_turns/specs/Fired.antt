-- Which action a firing is, and when the arguments of a fired action go with its name (profile).
use Rattle.std.specs.Prelude.{◌≡◌, ℕ, ℤ, Bool, false, if◌then◌else◌, List, Option, Some, None}
use Rattle.ioa_values.specs.Data.{Data}
use Rattle.ioa_terms.specs.SameTerms.{same_kind}
use Rattle.ioa_terms.specs.declared.tree.Kind.{Kind}
use Rattle.ioa_terms.specs.declared.tree.Kind.TheVariants.{Input, Output}
use Rattle.ioa_system.specs.Parts.{Parts, PlainRule, rule_named}
use Rattle.ioa_actions.specs.ActionParts.{input_at, locally_controlled_at, send_name, receive_name, message_and_ends}
use Rattle.ioa_actions.specs.declared.action.Action.{Action}

-- whether a rule is there and its actions are inputs
abbrev pub is_input : Option PlainRule → Bool
is_input None = false
is_input (Some r) = same_kind r.entry.kind Input

-- the action that a name and arguments give at a node with this program: a receive or a stimulus if the automaton has
-- an input of that name, else a send or a local action
abbrev pub action_fired : Parts → List ℕ → List Data → Action
action_fired p w vs =
    if is_input (rule_named w p.automaton.rules) then input_at p.node w vs else locally_controlled_at p.node w vs

-- arguments are a message and the numbers of two nodes
abbrev pub AreMessage : List Data → Type 0
AreMessage vs = (p : Data × ℤ × ℤ) × (message_and_ends vs ≡ Some p)

-- an entry of this kind and name, and arguments of an action of it: `send` is an output, `receive` an input, and both
-- have a message and the numbers of two nodes
pub record AreArgumentsFor (k : Kind) (w : List ℕ) (vs : List Data) : Type 0 where
  pub send : w ≡ send_name → (k ≡ Output) × AreMessage vs
  pub receive : w ≡ receive_name → (k ≡ Input) × AreMessage vs
