-- The systems that texts have, as far as printing and reading of their entries go, and the entries that their nodes may
-- take (profile).
use Rattle.std.specs.Prelude.{◌≡◌, ◌≢◌, ◌+◌, ◌<◌, ◌≤◌, ℕ, pos, true, nat_eq, List, length}
use Rattle.std.specs.List.{AllByRecursion, IsDistinct}
use lib.Pointwise.{pointwise}
use Rattle.ioa_values.specs.Canonical.{AllCanonical}
use Rattle.ioa_values.specs.Data.{Data, fits, number, truth, constant, tuple, sequence, finite_set, finite_map}
use Rattle.ioa_values.specs.Data.{Items, no_items, item, Entries, no_entries, entry}
use Rattle.ioa_tokens.specs.Lexeme.{greatest_number}
use Rattle.ioa_tokens.specs.Written.{IsName}
use Rattle.ioa_operators.specs.Shapes.{PlainShape, PlainShapes, truths, integers, naturals, constants, tuples}
use Rattle.ioa_operators.specs.Shapes.{sequences, sets, maps, no_shapes, shape}
use Rattle.ioa_actions.specs.ActionParts.{action_arguments, send_name, receive_name}
use Rattle.ioa_actions.specs.declared.action.Action.{Action}
use Rattle.ioa_actions.specs.declared.action.Action.TheVariants.{Send, Receive, Local, Stimulus}
use Rattle.ioa_source.specs.PlainText.{const, named}
use Rattle.ioa_source.specs.Sides.{CheckedParameter, CheckedVariable}
use Rattle.ioa_system.specs.Parts.{Parts, PlainRule}
use Rattle.ioa_system.specs.Systems.{SystemParts}
use Rattle.ioa_transitions.specs.Entries.{PlainEntry}
use Rattle.ioa_lines.specs.Lines.{IsActionOf}

-- names of constants: words that are neither reserved nor left out, none of them twice
pub record AreConstantNames (names : List (List ℕ)) : Type 0 where
  pub words : AllByRecursion IsName names
  pub differ : IsDistinct (pointwise nat_eq) names

abbrev mutual
  -- a shape of a text with so many constants: those of an enumeration are among them, and tuples have fields
  pub IsTextShape : ℕ → PlainShape → Type 0
  IsTextShape many truths = Unit {0}
  IsTextShape many integers = Unit {0}
  IsTextShape many naturals = Unit {0}
  IsTextShape many (constants type from count) = from + count ≤ many
  IsTextShape many (tuples type names no_shapes) = ⊥
  IsTextShape many (tuples type names (shape s ss)) = IsTextShape many s × AreTextShapes many ss
  IsTextShape many (sequences s) = IsTextShape many s
  IsTextShape many (sets s) = IsTextShape many s
  IsTextShape many (maps k v) = IsTextShape many k × IsTextShape many v

  -- shapes one after another
  pub AreTextShapes : ℕ → PlainShapes → Type 0
  AreTextShapes many no_shapes = Unit {0}
  AreTextShapes many (shape s ss) = IsTextShape many s × AreTextShapes many ss

-- a parameter of an entry is a constant, or has a shape of its text
abbrev pub IsTextParameter : ℕ → CheckedParameter → Type 0
IsTextParameter many (const t) = Unit {0}
IsTextParameter many (named d) = IsTextShape many d.shape

-- a rule has a word for its name, and shapes of its text
pub record IsTextRule (many : ℕ) (r : PlainRule) : Type 0 where
  pub name : IsName r.entry.name
  pub parameters : AllByRecursion (IsTextParameter many) r.entry.parameters
  pub shapes : AllByRecursion (IsTextShape many) r.shapes

-- a state variable has a shape of its text
abbrev pub IsTextVariable : ℕ → CheckedVariable → Type 0
IsTextVariable many x = IsTextShape many x.declared.shape

-- a program is on a node with a number, and has such rules and variables
pub record IsTextProgram (many : ℕ) (p : Parts) : Type 0 where
  pub number_of : ℕ
  pub node : p.node ≡ pos number_of
  pub low : number_of ≤ greatest_number
  pub rules : AllByRecursion (IsTextRule many) p.automaton.rules
  pub variables : AllByRecursion (IsTextVariable many) p.automaton.variables

-- a system of such programs, whose constants have words for names, none of them twice
pub record IsTextSystem (s : SystemParts) : Type 0 where
  pub names : AreConstantNames s.names
  pub programs : AllByRecursion (IsTextProgram (length s.names)) s.programs

abbrev mutual
  -- a value whose numbers, at any depth, lie in 64 bits
  pub IsBounded : Data → Type 0
  IsBounded (number z) = fits z ≡ true
  IsBounded (truth b) = Unit {0}
  IsBounded (constant k) = Unit {0}
  IsBounded (tuple ds) = AreBounded ds
  IsBounded (sequence ds) = AreBounded ds
  IsBounded (finite_set ds) = AreBounded ds
  IsBounded (finite_map es) = AreEntriesBounded es

  -- values one after another
  pub AreBounded : Items → Type 0
  AreBounded no_items = Unit {0}
  AreBounded (item d ds) = IsBounded d × AreBounded ds

  -- entries, keys and values
  pub AreEntriesBounded : Entries → Type 0
  AreEntriesBounded no_entries = Unit {0}
  AreEntriesBounded (entry k v es) = (IsBounded k × IsBounded v) × AreEntriesBounded es

-- an action of one node has not the name of messages
abbrev pub IsNoMessage : Action → Type 0
IsNoMessage (Send m i j) = Unit {0}
IsNoMessage (Receive m i j) = Unit {0}
IsNoMessage (Local a) = (a.name ≢ send_name) × (a.name ≢ receive_name)
IsNoMessage (Stimulus a) = (a.name ≢ send_name) × (a.name ≢ receive_name)

-- a value that an effect may choose in a text with so many constants: a number in 64 bits, a truth value, or one of
-- these constants
abbrev pub MayChoose : ℕ → Data → Type 0
MayChoose many (number z) = fits z ≡ true
MayChoose many (truth b) = Unit {0}
MayChoose many (constant k) = k < many
MayChoose many _ = ⊥

-- an entry that a node of the system may take: its action is one of the system, sends and receives alone have the names
-- of messages, numbers lie in 64 bits, and sets and maps ascend; and its effect may choose the values that it chose
pub record MayTake (s : SystemParts) (e : PlainEntry) : Type 0 where
  pub taken : IsActionOf s e.action
  pub message : IsNoMessage e.action
  pub bounded : AllByRecursion IsBounded (action_arguments e.action)
  pub canonical : AllCanonical (action_arguments e.action)
  pub chosen : AllByRecursion (MayChoose (length s.names)) e.chosen
