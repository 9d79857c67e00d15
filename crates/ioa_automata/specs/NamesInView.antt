-- The names in view at the sites of an automaton, with their shapes (profile: the table of names). In view together
-- they differ from each other.
use Rattle.std.specs.Prelude.{List, [], ◌∷◌, ◌++◌, Option, Some, None, Result, map}
use Rattle.ioa_values.specs.Outcome.{and_then}
use Rattle.ioa_operators.specs.Shapes.{PlainShape, integers, sequences, maps}
use Rattle.ioa_terms.specs.declared.name.Name.{Name}
use Rattle.ioa_terms.specs.declared.name.Name.TheVariants.{Word}
use Rattle.ioa_terms.specs.Inboxes.{inboxes_word}
use Rattle.ioa_terms.specs.Sorted.{NameShapes}
use Rattle.ioa_source.specs.PlainText.{const, named}
use Rattle.ioa_source.specs.Sides.{CheckedDeclared, CheckedParameter, CheckedVariable}
use Rattle.ioa_system.specs.Parts.{PlainRule, message_shape}
use Rattle.ioa_refusals.specs.declared.refusal.Refusal.{Refusal}
use Rattle.ioa_names.specs.NameTables.{new_or, with_name, with_names}

-- a declared name with its shape
abbrev pub shape_declared : CheckedDeclared → Name × PlainShape
shape_declared d = (Word d.name, d.shape)

-- names with one more, if it is new
abbrev pub with_declared : NameShapes → CheckedDeclared → Result NameShapes Refusal
with_declared names d = with_name names d.name d.shape

-- the names of an automaton's parameters, and of its state variables
abbrev pub parameter_shapes : List CheckedDeclared → NameShapes
parameter_shapes ds = map shape_declared ds

abbrev pub variable_shapes : List CheckedVariable → NameShapes
variable_shapes vs = map (λ v. shape_declared v.declared) vs

-- and of those parameters of an entry that have names
abbrev pub own_shape : CheckedParameter → NameShapes
own_shape (const t) = []
own_shape (named d) = shape_declared d ∷ []

abbrev pub own_shapes : List CheckedParameter → NameShapes
own_shapes [] = []
own_shapes (p ∷ more) = own_shape p ++ own_shapes more

-- the parameters of an automaton, which constants of entries and initial values read: they differ from each other and
-- from the text's constants
abbrev pub given_names_or : (constants : NameShapes) → List CheckedDeclared → Result NameShapes Refusal
given_names_or constants ps = and_then (with_names [] (parameter_shapes ps)) (new_or [] constants)

-- its state variables and its parameters, which the other terms read too
abbrev pub outer_names_or : (constants : NameShapes) → List CheckedDeclared → List CheckedVariable
    → Result NameShapes Refusal
outer_names_or constants ps vs =
    and_then (and_then (with_names [] (variable_shapes vs)) (λ n. with_names n (parameter_shapes ps)))
    (new_or [] constants)

-- an entry's own parameters: they differ from each other, from the names outside and from the text's constants
abbrev pub own_names_or : (outer constants : NameShapes) → List CheckedParameter → Result NameShapes Refusal
own_names_or outer constants own = and_then (with_names [] (own_shapes own)) (new_or outer constants)

-- the inboxes, if messages of a shape are taken: a map from the numbers of nodes to sequences of messages
abbrev pub inbox_shapes_of : Option PlainShape → NameShapes
inbox_shapes_of None = []
inbox_shapes_of (Some s) = (Word inboxes_word, maps integers (sequences s)) ∷ []

-- the inboxes, if one of these rules takes messages
abbrev pub inbox_shapes : List PlainRule → NameShapes
inbox_shapes rules = inbox_shapes_of (message_shape rules)

-- what its schedule block alone reads: the block's variables, and behind them the inboxes. These names differ from each
-- other, from the names outside and from the text's constants
abbrev pub block_own_shapes : List CheckedVariable → List PlainRule → NameShapes
block_own_shapes vs rules = variable_shapes vs ++ inbox_shapes rules

abbrev pub block_names_or : (outer constants : NameShapes) → List CheckedVariable → List PlainRule
    → Result NameShapes Refusal
block_names_or outer constants vs rules =
    and_then (and_then (with_names [] (variable_shapes vs)) (λ n. with_names n (inbox_shapes rules)))
    (new_or outer constants)
