-- The programs of nodes (profile): the automaton of each, the values of its parameters, and those of its state
-- variables in the start state.
use Rattle.std.specs.Prelude.{◌+◌, ℕ, suc, zero, pos, ℤ, Bool, false, not, ◌&&◌, ◌||◌, nat_le, if◌then◌else◌}
use Rattle.std.specs.Prelude.{List, [], ◌∷◌, Option, Some, None, Result, Ok, Err, find, length, map, slice_get}
use Rattle.std.specs.Ordering.{int_eq}
use Rattle.ioa_values.specs.Data.{Data, as_number}
use Rattle.ioa_values.specs.Outcome.{and_then}
use Rattle.ioa_operators.specs.Shapes.{PlainShape, has_shape}
use Rattle.ioa_operators.specs.declared.fault.TermFault.{TermFault}
use Rattle.ioa_terms.specs.Bindings.{Bindings, environment, same_word}
use Rattle.ioa_terms.specs.Meaning.{answer}
use Rattle.ioa_terms.specs.Sorted.{NameShapes}
use Rattle.ioa_actions.specs.ActionParts.{send_name, receive_name}
use Rattle.ioa_source.specs.PlainText.{const, named}
use Rattle.ioa_source.specs.Sides.{SourceNode, SourcePlacement, SourceTerm}
use Rattle.ioa_source.specs.Sides.{CheckedParameter, CheckedTerm, CheckedVariable}
use Rattle.ioa_system.specs.InView.{given_bindings}
use Rattle.ioa_system.specs.Parts.{AutomatonParts, Parts, PlainRule, parts}
use Rattle.ioa_refusals.specs.declared.refusal.Refusal.{Refusal}
use Rattle.ioa_refusals.specs.declared.refusal.Refusal.TheVariants.{Unknown, Twice, NoInitial, NodeGap, Limit}
use Rattle.ioa_refusals.specs.declared.refusal.Refusal.TheVariants.{BadArgument}
use Rattle.ioa_sorts.specs.Statements.{all_ok}
use Rattle.ioa_names.specs.NameTables.{words}
use Rattle.ioa_sorts.specs.Firings.{arguments_at}
use Rattle.ioa_sections.specs.declared.nodes.TheConstants.{MOST_NODES}
use Rattle.ioa_sections.specs.Distinct.{differ_from}
use Rattle.ioa_sections.specs.Sections.{nodes_in}

-- a list, if it is not too long
unfoldable pub at_most : {A : Type 0} → ℕ → List A → Result (List A) Refusal
at_most most xs = if nat_le (length xs) most then Ok xs else Err Limit

-- whether a node has a number
abbrev pub has_number : ℤ → SourceNode → Bool
has_number k n = int_eq n.number k

-- whether two nodes have one number
abbrev pub same_number : SourceNode → SourceNode → Bool
same_number m n = int_eq m.number n.number

-- nodes, if their numbers differ
unfoldable pub nodes_or : List SourceNode → Result (List SourceNode) Refusal
nodes_or ns = if differ_from same_number [] ns then Ok ns else Err Twice

-- the nodes of a system section: not too many, and with numbers that differ
abbrev pub nodes_at : List SourcePlacement → Result (List SourceNode) Refusal
nodes_at ps = and_then (at_most MOST_NODES (nodes_in ps)) nodes_or

-- the automaton that has a name, if one has it
abbrev pub automaton_named : List ℕ → List AutomatonParts → Option AutomatonParts
automaton_named w cs = find (λ c. same_word c.name w) cs

unfoldable pub automaton_or : Option AutomatonParts → Result AutomatonParts Refusal
automaton_or None = Err Unknown
automaton_or (Some c) = Ok c

-- the value that an evaluation gives
unfoldable pub value_or : Result Data TermFault → Result Data Refusal
value_or (Ok v) = Ok v
value_or (Err f) = Err BadArgument

-- the value, if it has the shape: a negative number is no natural
unfoldable pub fitting_or : PlainShape → Data → Result Data Refusal
fitting_or s v = if has_shape s v then Ok v else Err BadArgument

-- the value of a term for a place of a shape
abbrev pub value_for : Bindings → PlainShape → CheckedTerm → Result Data Refusal
value_for e s t = and_then (value_or (answer t e)) (fitting_or s)

-- what the arguments of a node or of a script's call read: the text's constants
abbrev pub constant_bindings : NameShapes → Bindings
constant_bindings names = environment [] [] (words names)

-- the values of arguments, each for the parameter at its position
abbrev pub argument_values : Bindings → List PlainShape → List CheckedTerm → Result (List Data) Refusal
argument_values e ss [] = Ok []
argument_values e [] (t ∷ ts) = Ok []
argument_values e (s ∷ ss) (t ∷ ts) = and_then (value_for e s t)
    (λ v. and_then (argument_values e ss ts) (λ vs. Ok (v ∷ vs)))

-- in a text of these constants
unfoldable pub given_at : NameShapes → List PlainShape → List SourceTerm → Result (List Data) Refusal
given_at names ss us = and_then (arguments_at names ss us) (argument_values (constant_bindings names) ss)

-- the first value of a state variable or of a variable of a schedule block
unfoldable pub initial_value : Bindings → PlainShape → Option CheckedTerm → Result Data Refusal
initial_value e s None = Err NoInitial
initial_value e s (Some t) = value_for e s t

abbrev pub variable_value : Bindings → CheckedVariable → Result Data Refusal
variable_value e v = initial_value e v.declared.shape v.initial

abbrev pub variable_values : Bindings → List CheckedVariable → Result (List Data) Refusal
variable_values e vs = all_ok (map (variable_value e) vs)

-- a parameter of an entry passes if it has a name, or is a constant that has a value
unfoldable pub constant_at : Bindings → CheckedParameter → Result (Unit {0}) Refusal
constant_at e (named d) = Ok tt
constant_at e (const t) = and_then (value_or (answer t e)) (λ v. Ok tt)

abbrev pub constants_at : Bindings → List CheckedParameter → Result (Unit {0}) Refusal
constants_at e [] = Ok tt
constants_at e (p ∷ ps) = and_then (constant_at e p) (λ x. constants_at e ps)

-- whether an evaluation gives a number
abbrev pub is_number_of : ℤ → Option ℤ → Bool
is_number_of k None = false
is_number_of k (Some n) = int_eq n k

abbrev pub gives_number : ℤ → Result Data TermFault → Bool
gives_number k (Ok v) = is_number_of k (as_number v)
gives_number k (Err f) = false

-- whether a parameter is there and is the constant of a number
abbrev pub is_constant_of : Bindings → ℤ → Option CheckedParameter → Bool
is_constant_of e k None = false
is_constant_of e k (Some (named d)) = false
is_constant_of e k (Some (const t)) = gives_number k (answer t e)

-- whether a parameter, if its entry has the name that asks for it, is the constant of a number
abbrev pub is_own : Bindings → ℤ → (asked : Bool) → Option CheckedParameter → Bool
is_own e k asked o = not asked || is_constant_of e k o

-- whether an entry may be on the node of a number: the second argument of `send` is that number, and the third of
-- `receive`
abbrev pub is_at_home : Bindings → ℤ → PlainRule → Bool
is_at_home e k r =
    is_own e k (same_word r.entry.name send_name) (slice_get r.entry.parameters 1)
    && is_own e k (same_word r.entry.name receive_name) (slice_get r.entry.parameters 2)

unfoldable pub home_at : Bindings → ℤ → PlainRule → Result (Unit {0}) Refusal
home_at e k r = if is_at_home e k r then Ok tt else Err BadArgument

-- an entry on the node of a number: its constants have values, and it may be there
abbrev pub entry_on : Bindings → ℤ → PlainRule → Result (Unit {0}) Refusal
entry_on e k r = and_then (constants_at e r.entry.parameters) (λ x. home_at e k r)

abbrev pub entries_on : Bindings → ℤ → List PlainRule → Result (Unit {0}) Refusal
entries_on e k [] = Ok tt
entries_on e k (r ∷ rs) = and_then (entry_on e k r) (λ x. entries_on e k rs)

-- the values of the state variables of an automaton in the start state, on a node that may have its entries and gives
-- its parameters these values
unfoldable pub start_values : ℤ → AutomatonParts → List Data → Result (List Data) Refusal
start_values k a args = and_then (entries_on (given_bindings a args) k a.rules)
    (λ x. variable_values (given_bindings a args) a.variables)

-- the program of such a node
unfoldable pub program_of : ℤ → AutomatonParts → List Data → Result Parts Refusal
program_of k a args = and_then (start_values k a args)
    (λ vs. and_then (variable_values (given_bindings a args) a.schedule.variables) (λ bs. Ok (parts k a args vs bs)))

abbrev pub parameter_shapes : AutomatonParts → List PlainShape
parameter_shapes a = map (λ d. d.shape) a.parameters

-- the same, of the terms of its arguments
unfoldable pub program_with : NameShapes → ℤ → List SourceTerm → AutomatonParts → Result Parts Refusal
program_with names k us a = and_then (given_at names (parameter_shapes a) us) (program_of k a)

-- the program of a node, whose number is this one
abbrev pub node_program : NameShapes → List AutomatonParts → ℤ → SourceNode → Result Parts Refusal
node_program names cs k n =
    and_then (automaton_or (automaton_named n.automaton cs)) (program_with names k n.arguments)

-- the program of the node of a number, if there is such a node
unfoldable pub program_at : NameShapes → List AutomatonParts → ℤ → Option SourceNode → Result Parts Refusal
program_at names cs k None = Err NodeGap
program_at names cs k (Some n) = node_program names cs k n

-- the programs of so many nodes, from a number on
abbrev pub programs_from : NameShapes → List AutomatonParts → List SourceNode → ℕ → ℕ → Result (List Parts) Refusal
programs_from names cs ns k zero = Ok []
programs_from names cs ns k (suc many) = and_then (program_at names cs (pos k) (find (has_number (pos k)) ns))
    (λ p. and_then (programs_from names cs ns (k + 1) many) (λ ps. Ok (p ∷ ps)))

-- the programs of nodes, node 0 first, in a text of these constants and automata
abbrev pub programs_at : NameShapes → List AutomatonParts → List SourceNode → Result (List Parts) Refusal
programs_at names cs ns = programs_from names cs ns 0 (length ns)
