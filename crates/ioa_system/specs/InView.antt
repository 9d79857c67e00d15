-- What the terms of an automaton may read (profile: the table of names).
use Rattle.std.specs.Prelude.{ℕ, List, [], ◌∷◌, ◌++◌, map, Option, Some, None}
use Rattle.ioa_values.specs.Data.{Data}
use Rattle.ioa_terms.specs.declared.name.Name.{Name}
use Rattle.ioa_terms.specs.declared.name.Name.TheVariants.{Word}
use Rattle.ioa_operators.specs.Shapes.{PlainShape}
use Rattle.ioa_terms.specs.Bindings.{Bindings, environment}
use Rattle.ioa_terms.specs.Inboxes.{inboxes_word}
use Rattle.ioa_source.specs.PlainText.{PlainAutomaton, PlainDeclared, PlainParameter, PlainVariable, const, named}
use Rattle.ioa_source.specs.Sides.{CheckedParameter}
use Rattle.ioa_system.specs.Parts.{AutomatonParts, message_shape}

-- where a term of an automaton is written: as a constant of an entry, as the initial value of a state variable, behind
-- the `where` of an entry, in the guard or the effect of a transition, or in a statement of the schedule block
pub data Site : Type 0 where
  entry_constant : Site
  initial_value : Site
  entry_condition : Site
  guard_or_effect : Site
  block_statement : Site

-- what is in view there of what the automaton's parameters and its state variables have, and of what the entry's own
-- parameters or the block's own variables have, their names or their values, in the order of the slots
abbrev pub in_view : {A : Type 0} → Site → (parameters variables own : List A) → List A
in_view entry_constant parameters variables own = parameters
in_view initial_value parameters variables own = parameters
in_view entry_condition parameters variables own = parameters ++ own
in_view guard_or_effect parameters variables own = variables ++ (parameters ++ own)
in_view block_statement parameters variables own = own ++ (variables ++ parameters)

-- the names of an automaton's parameters
abbrev pub parameter_names : {D : Type 0} → List (PlainDeclared D) → List (List ℕ)
parameter_names ds = map (λ d. d.name) ds

-- the names of state variables
abbrev pub variable_names : {N C D : Type 0} → List (PlainVariable N C D) → List (List ℕ)
variable_names vs = map (λ v. v.declared.name) vs

-- the name of a parameter of an entry that has one
abbrev pub own_name : {N C D : Type 0} → PlainParameter N C D → List (List ℕ)
own_name (const t) = []
own_name (named d) = d.name ∷ []

-- the names of an entry's own parameters
abbrev pub own_names : {N C D : Type 0} → List (PlainParameter N C D) → List (List ℕ)
own_names [] = []
own_names (p ∷ more) = own_name p ++ own_names more

-- the names that an automaton declares, and those of the text's constants, which every term may read
pub record DeclaredNames : Type 0 where
  pub constants : List (List ℕ)
  pub parameters : List (List ℕ)
  pub variables : List (List ℕ)

-- those of an automaton of a text with these constants
abbrev pub source_names : {N C D : Type 0} → List (List ℕ) → PlainAutomaton N C D → DeclaredNames
source_names cs a = record {
  constants = cs;
  parameters = parameter_names a.parameters;
  variables = variable_names a.states;
}

-- and of an automaton that was made ready to step
abbrev pub declared_names : AutomatonParts → DeclaredNames
declared_names a = record {
  constants = a.constants;
  parameters = parameter_names a.parameters;
  variables = variable_names a.variables;
}

-- the names in view at a site, the entry's own parameters being these: without the text's constants
abbrev pub scope_at : Site → DeclaredNames → List (List ℕ) → List (List ℕ)
scope_at site d own = in_view site d.parameters d.variables own

-- all names that a term may read there
abbrev pub names_at : Site → DeclaredNames → List (List ℕ) → List Name
names_at site d own = map Word (scope_at site d own) ++ map Word d.constants

-- what a term reads there, if an automaton declares these names, the entry's own parameters have those, and each of
-- them has its value among these: the names in view with their values, and the text's constants behind them
abbrev pub environment_at : Site → DeclaredNames → (own_names : List (List ℕ)) → (arguments variables own : List Data)
    → Bindings
environment_at site d names arguments variables own =
    environment (map Word (scope_at site d names)) (in_view site arguments variables own) d.constants

-- the same of an automaton that was made ready to step, and of an entry's parameters
abbrev pub bindings_at : Site → AutomatonParts → (arguments variables : List Data)
    → List CheckedParameter → (own : List Data) → Bindings
bindings_at site a arguments variables ps own =
    environment_at site (declared_names a) (own_names ps) arguments variables own

-- what the constants of entries and the initial values read
abbrev pub given_bindings : AutomatonParts → List Data → Bindings
given_bindings a arguments = bindings_at entry_constant a arguments [] [] []

-- the name of the inboxes, if messages of a shape are taken
abbrev pub inbox_words : Option PlainShape → List (List ℕ)
inbox_words None = []
inbox_words (Some s) = inboxes_word ∷ []

-- the names that come first in view in a schedule block: those of its own variables, and that of the inboxes, which
-- only a block sees, of an automaton that takes messages
abbrev pub block_own_names : AutomatonParts → List (List ℕ)
block_own_names a = variable_names a.schedule.variables ++ inbox_words (message_shape a.rules)

-- what a statement of the schedule block reads, if its variables have the values `own`, and the inboxes these
abbrev pub block_bindings : AutomatonParts → (arguments variables inboxes own : List Data) → Bindings
block_bindings a arguments variables inboxes own =
    environment_at block_statement (declared_names a) (block_own_names a) arguments variables (own ++ inboxes)
