-- When types, programs, channels and scripts are those that a text describes (profile), in words that know nothing of
-- the order of refusals. A number before a field is that of the refusals of a text for which the field cannot hold.
use Rattle.std.specs.Prelude.{◌≡◌, ◌≢◌, ◌+◌, ℕ, ℤ, pos, List, [], ◌∷◌, Option, Some, None, Ok, find, slice_get}
use Rattle.std.specs.List.{AllByRecursion, AllZip}
use Rattle.std.specs.Prelude.{true}
use Rattle.ioa_values.specs.Data.{Data, number}
use Rattle.ioa_operators.specs.Shapes.{PlainShape, has_shape}
use Rattle.ioa_terms.specs.Bindings.{Bindings}
use Rattle.ioa_terms.specs.Meaning.{answer}
use Rattle.ioa_terms.specs.Sorted.{NameShapes}
use Rattle.ioa_terms.specs.declared.tree.Kind.TheVariants.{Input}
use Rattle.ioa_actions.specs.ActionParts.{send_name, receive_name}
use Rattle.ioa_actions.specs.declared.action.NodeAction.{NodeAction}
use Rattle.ioa_source.specs.PlainText.{const, named, type_named, automaton}
use Rattle.ioa_source.specs.declared.declaration.Channel.{Channel}
use Rattle.ioa_source.specs.Sides.{SourceCall, SourceDeclaration, SourceNode, SourceScript, SourceTerm}
use Rattle.ioa_source.specs.Sides.{CheckedParameter, CheckedTerm, CheckedVariable}
use Rattle.ioa_system.specs.InView.{given_bindings}
use Rattle.ioa_system.specs.Parts.{AutomatonParts, Parts, PlainRule, rule_named}
use Rattle.ioa_system.specs.Systems.{ScriptParts, program_numbered}
use Rattle.ioa_sort_rules.specs.SameSorts.{same_sort}
use Rattle.ioa_types.specs.TextTypes.{PlainTextTypes}
use Rattle.ioa_types.specs.TypeDeclarations.{DeclaresType}
use Rattle.ioa_sorts.specs.SortedTerms.{AreArgumentsOf}
use Rattle.ioa_sections.specs.Nodes.{automaton_named, constant_bindings, has_number, parameter_shapes}

-- the types of declarations, one behind the other, and behind these
abbrev pub AreTypesOf : List SourceDeclaration → PlainTextTypes → PlainTextTypes → Type 0
AreTypesOf [] before t = t ≡ before
AreTypesOf (type_named d ∷ more) before t =
    (u : PlainTextTypes) × DeclaresType before d u × AreTypesOf more u t
AreTypesOf (automaton a ∷ more) before t = AreTypesOf more before t

-- a term has this value for a place of a shape: no number outside 64 bits is met, and a natural is not negative
pub record IsValueFor (e : Bindings) (s : PlainShape) (t : CheckedTerm) (v : Data) : Type 0 where
  pub value : answer t e ≡ Ok v
  pub shape : has_shape s v ≡ true

-- the same of terms, each for the place at its position
abbrev pub AreValuesFor : Bindings → List PlainShape → List CheckedTerm → List Data → Type 0
AreValuesFor e [] [] [] = Unit {0}
AreValuesFor e (s ∷ ss) (t ∷ ts) (v ∷ vs) = IsValueFor e s t v × AreValuesFor e ss ts vs
AreValuesFor e [] [] (v ∷ vs) = ⊥
AreValuesFor e [] (t ∷ ts) vs = ⊥
AreValuesFor e (s ∷ ss) [] vs = ⊥
AreValuesFor e (s ∷ ss) (t ∷ ts) [] = ⊥

-- a state variable or a variable of a schedule block has this first value
abbrev pub IsInitialValue : Bindings → CheckedVariable → Data → Type 0
IsInitialValue e v d = (t : CheckedTerm) × (v.initial ≡ Some t) × IsValueFor e v.declared.shape t d

-- a parameter of an entry, if it is a constant, has a value
abbrev pub HasValue : Bindings → CheckedParameter → Type 0
HasValue e (const t) = (v : Data) × (answer t e ≡ Ok v)
HasValue e (named d) = Unit {0}

-- a parameter is there and is the constant of a number
abbrev pub IsConstantOf : Bindings → ℤ → Option CheckedParameter → Type 0
IsConstantOf e k o = (t : CheckedTerm) × (o ≡ Some (const t)) × (answer t e ≡ Ok (number k))

-- an entry on the node of a number: `send` has that number second, and `receive` third
pub record IsEntryOn (e : Bindings) (k : ℤ) (r : PlainRule) : Type 0 where
  pub constants : AllByRecursion (HasValue e) r.entry.parameters
  pub send : r.entry.name ≡ send_name → IsConstantOf e k (slice_get r.entry.parameters 1)
  pub receive : r.entry.name ≡ receive_name → IsConstantOf e k (slice_get r.entry.parameters 2)

-- the program of a node that gives its automaton these terms, in a text of these constants
pub record IsProgramOf (names : NameShapes) (us : List SourceTerm) (p : Parts) : Type 0 where
  -- 20, 22, 32: the terms have the sorts of the parameters
  pub arguments : List CheckedTerm
  pub sorted : AreArgumentsOf names (parameter_shapes p.automaton) us arguments
  -- 34: the parameters, the state variables, the variables of the schedule block and the constants of entries have
  -- values, and sends and receives are the node's own
  pub given : AreValuesFor (constant_bindings names) (parameter_shapes p.automaton) arguments p.arguments
  pub initial : AllZip (IsInitialValue (given_bindings p.automaton p.arguments)) p.automaton.variables p.initial
  pub block : AllZip (IsInitialValue (given_bindings p.automaton p.arguments)) p.automaton.schedule.variables p.block
  pub entries : AllByRecursion (IsEntryOn (given_bindings p.automaton p.arguments) p.node) p.automaton.rules

-- the program of node k, of these nodes and automata
pub record IsNodeOf (names : NameShapes) (automata : List AutomatonParts) (ns : List SourceNode) (k : ℕ) (p : Parts)
    : Type 0 where
  -- 30: there is a node of this number
  pub node : SourceNode
  pub declared : find (has_number (pos k)) ns ≡ Some node
  pub number : p.node ≡ pos k
  -- 20: its automaton is declared
  pub automaton : automaton_named node.automaton automata ≡ Some p.automaton
  pub program : IsProgramOf names node.arguments p

-- the programs of the nodes from node k on
abbrev pub AreNodesOf : NameShapes → List AutomatonParts → List SourceNode → ℕ → List Parts → Type 0
AreNodesOf names automata ns k [] = Unit {0}
AreNodesOf names automata ns k (p ∷ more) =
    IsNodeOf names automata ns k p × AreNodesOf names automata ns (k + 1) more

-- a parameter is there and takes a number, if it is a constant its own value alone
abbrev pub TakesNumber : Bindings → ℤ → Option CheckedParameter → Type 0
TakesNumber e k None = ⊥
TakesNumber e k (Some (const t)) = answer t e ≡ Ok (number k)
TakesNumber e k (Some (named d)) = Unit {0}

-- messages, the first of several arguments, of one sort: naturals are told apart from integers, and tuple types are
-- compared by name
abbrev pub HaveOneMessage : List PlainShape → List PlainShape → Type 0
HaveOneMessage ss ts =
    (m : PlainShape) × (n : PlainShape) × (slice_get ss 0 ≡ Some m) × (slice_get ts 0 ≡ Some n) × (same_sort m n ≡ true)

-- a channel between nodes of these programs
pub record IsChannelOf (ps : List Parts) (c : Channel) : Type 0 where
  -- 29: it is from one node to another
  pub two : c.from ≡ c.to → ⊥
  -- 20: which are declared
  pub sender : Parts
  pub receiver : Parts
  pub from : program_numbered c.from ps ≡ Some sender
  pub to : program_numbered c.to ps ≡ Some receiver
  -- 28: the receiver takes messages from the sender
  pub input : PlainRule
  pub found : rule_named receive_name receiver.automaton.rules ≡ Some input
  pub takes : TakesNumber (given_bindings receiver.automaton receiver.arguments) c.from
      (slice_get input.entry.parameters 1)
  -- 27: of the sort that the sender sends
  pub sorts : (r : PlainRule) → rule_named send_name sender.automaton.rules ≡ Some r →
      HaveOneMessage r.shapes input.shapes

-- the stimulus of a call at node k, on which this automaton is placed, in a text of these constants
pub record IsStimulusOf (names : NameShapes) (k : ℤ) (a : AutomatonParts) (c : SourceCall) (x : NodeAction)
    : Type 0 where
  pub node : x.node ≡ k
  pub name : x.name ≡ c.name
  -- 34: it is no message
  pub no_send : c.name ≢ send_name
  pub no_receive : c.name ≢ receive_name
  -- 20: it is an input of the automaton
  pub input : PlainRule
  pub found : rule_named c.name a.rules ≡ Some input
  pub kind : input.entry.kind ≡ Input
  -- 20, 22, 32: the terms have the sorts of its parameters
  pub arguments : List CheckedTerm
  pub sorted : AreArgumentsOf names input.shapes c.arguments arguments
  -- 34: they have values
  pub given : AreValuesFor (constant_bindings names) input.shapes arguments x.arguments

-- a script, whose node has one of these programs
pub record IsScriptOf (names : NameShapes) (ps : List Parts) (s : SourceScript) (c : ScriptParts) : Type 0 where
  pub node : c.node ≡ s.node
  -- 20: the node is declared
  pub program : Parts
  pub of_node : program_numbered s.node ps ≡ Some program
  -- 20, 22, 32, 34: the stimuli
  pub stimuli : AllZip (IsStimulusOf names s.node program.automaton) s.calls c.stimuli
