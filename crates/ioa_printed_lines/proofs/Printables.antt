-- The values and the actions that can be read back from their text.
use Rattle.std.specs.Prelude.{◌≡◌, ◌≢◌, ◌<◌, ◌≤◌, ℕ, pos, true}
use Rattle.std.specs.List.{AllByRecursion}
use Rattle.ioa_values.specs.Data.{Data, fits, number, truth, constant, tuple, sequence, finite_set, finite_map}
use Rattle.ioa_values.specs.Data.{Items, no_items, item, Entries, no_entries, entry}
use Rattle.ioa_tokens.specs.Written.{IsName}
use Rattle.ioa_tokens.specs.Lexeme.{greatest_number}
use Rattle.ioa_actions.specs.ActionParts.{action_arguments, send_name, receive_name}
use Rattle.ioa_actions.specs.declared.action.NodeAction.{NodeAction}
use Rattle.ioa_actions.specs.declared.action.Action.{Action}
use Rattle.ioa_actions.specs.declared.action.Action.TheVariants.{Send, Receive, Local, Stimulus}

abbrev mutual
  -- a value of a text with so many constants: its numbers lie in 64 bits, its constants are among those of the text,
  -- and its tuples have parts
  pub IsPrintable : ℕ → Data → Type 0
  IsPrintable many (number z) = fits z ≡ true
  IsPrintable many (truth b) = Unit {0}
  IsPrintable many (constant k) = k < many
  IsPrintable many (tuple no_items) = ⊥
  IsPrintable many (tuple (item d ds)) = IsPrintable many d × ArePrintable many ds
  IsPrintable many (sequence ds) = ArePrintable many ds
  IsPrintable many (finite_set ds) = ArePrintable many ds
  IsPrintable many (finite_map es) = ArePrintableEntries many es

  -- values one after another
  pub ArePrintable : ℕ → Items → Type 0
  ArePrintable many no_items = Unit {0}
  ArePrintable many (item d ds) = IsPrintable many d × ArePrintable many ds

  -- entries, keys and values
  pub ArePrintableEntries : ℕ → Entries → Type 0
  ArePrintableEntries many no_entries = Unit {0}
  ArePrintableEntries many (entry k v es) = (IsPrintable many k × IsPrintable many v) × ArePrintableEntries many es

-- an action of one node: its name is a word and not that of messages, and its node has a number
pub record IsPrintableAtNode (a : NodeAction) : Type 0 where
  pub name : IsName a.name
  pub no_send : a.name ≢ send_name
  pub no_receive : a.name ≢ receive_name
  pub number : ℕ
  pub node : a.node ≡ pos number
  pub fits : number ≤ greatest_number

-- a send and a receive have the name of all sends and that of all receives
abbrev pub HasOwnName : Action → Type 0
HasOwnName (Send m i j) = Unit {0}
HasOwnName (Receive m i j) = Unit {0}
HasOwnName (Local a) = IsPrintableAtNode a
HasOwnName (Stimulus a) = IsPrintableAtNode a

-- an action of a text with so many constants; the two ends of a message are among its arguments
pub record IsPrintableAction (many : ℕ) (a : Action) : Type 0 where
  pub own : HasOwnName a
  pub arguments : AllByRecursion (IsPrintable many) (action_arguments a)
