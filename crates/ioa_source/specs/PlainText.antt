-- What a text declares (profile; automata and transitions Lynch 8.1), as plain data without memory. `N` annotates each
-- name that a term or a target reads; `C` annotates each call; `D` annotates each display, field, assigned variable and
-- declared sort.
use Rattle.std.specs.Prelude.{ℕ, ℤ, List, Option}
use Rattle.ioa_terms.specs.declared.tree.Kind.{Kind}
use Rattle.ioa_terms.specs.PlainTerm.{PlainTerm, PlainStatement}
use Rattle.ioa_terms.specs.PlainSort.{PlainSort}
use Rattle.ioa_source.specs.declared.declaration.Channel.{Channel}

-- a name for any value of a sort
pub record PlainDeclared (D : Type 0) : Type 0 where
  pub name : List ℕ
  pub sort : PlainSort
  pub shape : D
  deriving IsSet as PlainDeclared-set

-- a parameter of an entry: a term whose value the argument has to be, or a name for any value of a sort
pub data PlainParameter (N C D : Type 0) : Type 0 where
  const : PlainTerm N C D → PlainParameter N C D
  named : PlainDeclared D → PlainParameter N C D
  deriving IsSet as PlainParameter-set

-- an entry of a signature, with the condition behind `where`, if one is written
pub record PlainEntry (N C D : Type 0) : Type 0 where
  pub kind : Kind
  pub name : List ℕ
  pub parameters : List (PlainParameter N C D)
  pub condition : Option (PlainTerm N C D)
  deriving IsSet as PlainEntry-set

-- a state variable, with the term of its value in the start state, if one is written
pub record PlainVariable (N C D : Type 0) : Type 0 where
  pub declared : PlainDeclared D
  pub initial : Option (PlainTerm N C D)
  deriving IsSet as PlainVariable-set

-- a transition
pub record PlainTransition (N C D : Type 0) : Type 0 where
  pub kind : Kind
  pub name : List ℕ
  pub arguments : List (PlainTerm N C D)
  pub pre : Option (PlainTerm N C D)
  pub effect : List (PlainStatement N C D)
  deriving IsSet as PlainTransition-set

-- a schedule block: its own variables, and its statements
pub record PlainSchedule (N C D : Type 0) : Type 0 where
  pub variables : List (PlainVariable N C D)
  pub statements : List (PlainStatement N C D)
  deriving IsSet as PlainSchedule-set

-- an automaton with its schedule block
pub record PlainAutomaton (N C D : Type 0) : Type 0 where
  pub name : List ℕ
  pub parameters : List (PlainDeclared D)
  pub signature : List (PlainEntry N C D)
  pub states : List (PlainVariable N C D)
  pub transitions : List (PlainTransition N C D)
  pub schedule : PlainSchedule N C D
  deriving IsSet as PlainAutomaton-set

-- what a type's values are: the constants of these names, or a value for each of these fields
pub data PlainForm (D : Type 0) : Type 0 where
  enumeration : List (List ℕ) → PlainForm D
  tuple_of : List (PlainDeclared D) → PlainForm D
  deriving IsSet as PlainForm-set

-- a name for an enumeration or a tuple type
pub record PlainType (D : Type 0) : Type 0 where
  pub name : List ℕ
  pub form : PlainForm D
  deriving IsSet as PlainType-set

-- a declaration, before the system section
pub data PlainDeclaration (N C D : Type 0) : Type 0 where
  type_named : PlainType D → PlainDeclaration N C D
  automaton : PlainAutomaton N C D → PlainDeclaration N C D
  deriving IsSet as PlainDeclaration-set

-- an automaton placed on a node, with the values of its parameters
pub record PlainNode (N C D : Type 0) : Type 0 where
  pub number : ℤ
  pub automaton : List ℕ
  pub arguments : List (PlainTerm N C D)
  deriving IsSet as PlainNode-set

-- an action's name with the terms of its arguments, in a script
pub record PlainCall (N C D : Type 0) : Type 0 where
  pub name : List ℕ
  pub arguments : List (PlainTerm N C D)
  deriving IsSet as PlainCall-set

-- the inputs that the environment gives a node, in order
pub record PlainScript (N C D : Type 0) : Type 0 where
  pub node : ℤ
  pub calls : List (PlainCall N C D)
  deriving IsSet as PlainScript-set

-- an item of the system section
pub data PlainPlacement (N C D : Type 0) : Type 0 where
  node : PlainNode N C D → PlainPlacement N C D
  channel : Channel → PlainPlacement N C D
  script : PlainScript N C D → PlainPlacement N C D
  deriving IsSet as PlainPlacement-set

-- an invariant: a term that is to be true in each state
pub record PlainInvariant (N C D : Type 0) : Type 0 where
  pub name : List ℕ
  pub term : PlainTerm N C D
  deriving IsSet as PlainInvariant-set

-- a whole text
pub record PlainText (N C D : Type 0) : Type 0 where
  pub declarations : List (PlainDeclaration N C D)
  pub system : List (PlainPlacement N C D)
  pub invariants : List (PlainInvariant N C D)
  deriving IsSet as PlainText-set
