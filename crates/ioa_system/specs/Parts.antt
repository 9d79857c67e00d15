-- The parts of an automaton that was made ready to step, and of a node's program, as plain data (view).
use Rattle.std.specs.Prelude.{ℕ, ℤ, List, Option, find, map, slice_get, refl}
use Rattle.std.specs.Option.{option_and_then}
use Rattle.std.specs.Coded.{Coded, code_by, coded×, coded_ℕ, coded_ℤ, coded_list}
use Rattle.ioa_values.specs.Data.{Data}
use Rattle.ioa_values.specs.DataCode.{data_code}
use Rattle.ioa_operators.specs.ShapeCode.{shape_code}
use Rattle.ioa_operators.specs.Shapes.{PlainShape}
use Rattle.ioa_actions.specs.ActionParts.{receive_name}
use Rattle.ioa_terms.specs.Bindings.{same_word}
use Rattle.ioa_terms.specs.contracts.callee.Callee as callee
use Rattle.ioa_source.specs.Sides.{CheckedDeclared, CheckedEntry, CheckedSchedule, CheckedTransition, CheckedVariable}
use Rattle.ioa_source.specs.TextCode.{declared_code, entry_code, schedule_code, transition_code, variable_code}

-- an entry of a signature with its transition (Lynch 8.1), the shapes of the arguments that it takes, and the names of
-- its own parameters
pub record PlainRule : Type 0 where
  pub entry : CheckedEntry
  pub shapes : List PlainShape
  pub transition : CheckedTransition
  pub own : List (List ℕ)

-- the code of a rule: a nest of pairs
abbrev pub rule_code : Coded PlainRule
rule_code =
    code_by (CheckedEntry × (List PlainShape × (CheckedTransition × List (List ℕ))))
    (coded× (entry_code coded_ℕ callee.the_row.coded shape_code)
    (coded× (coded_list shape_code)
    (coded× (transition_code coded_ℕ callee.the_row.coded shape_code) (coded_list (coded_list coded_ℕ)))))
    (λ r. (r.entry, (r.shapes, (r.transition, r.own))))
    (λ t. record { entry = t.0; shapes = t.1.0; transition = t.1.1.0; own = t.1.1.1 })
    (λ _. refl)

-- the names of rules, in order
abbrev pub rule_names : List PlainRule → List (List ℕ)
rule_names rs = map (λ r. r.entry.name) rs

-- the rule for actions of a name, the first one if there are several
abbrev pub rule_named : List ℕ → List PlainRule → Option PlainRule
rule_named w rs = find (λ r. same_word r.entry.name w) rs

-- the shape of the messages that rules take, if one of them is named `receive`: it is that of its first argument
-- (profile)
abbrev pub message_shape : List PlainRule → Option PlainShape
message_shape rs = option_and_then (λ r. slice_get r.shapes 0) (rule_named receive_name rs)

-- the state variable of a name, the first one if there are several
abbrev pub variable_named : List ℕ → List CheckedVariable → Option CheckedVariable
variable_named w vs = find (λ v. same_word w v.declared.name) vs

-- an automaton: its name, the names of the text's constants, its parameters, its state variables, its rules and its
-- schedule block
pub record AutomatonParts : Type 0 where
  pub name : List ℕ
  pub constants : List (List ℕ)
  pub parameters : List CheckedDeclared
  pub variables : List CheckedVariable
  pub rules : List PlainRule
  pub schedule : CheckedSchedule

-- an automaton of these parts
abbrev pub automaton_parts : List ℕ → List (List ℕ) → List CheckedDeclared → List CheckedVariable → List PlainRule
    → CheckedSchedule → AutomatonParts
automaton_parts w cs ds vs rs ss =
    record { name = w; constants = cs; parameters = ds; variables = vs; rules = rs; schedule = ss }

-- the code of an automaton: a nest of pairs
abbrev pub automaton_code : Coded AutomatonParts
automaton_code =
    code_by
    (List ℕ × (List (List ℕ) × (List CheckedDeclared
    × (List CheckedVariable × (List PlainRule × CheckedSchedule)))))
    (coded× (coded_list coded_ℕ)
    (coded× (coded_list (coded_list coded_ℕ))
    (coded× (coded_list (declared_code shape_code))
    (coded× (coded_list (variable_code coded_ℕ callee.the_row.coded shape_code))
    (coded× (coded_list rule_code) (schedule_code coded_ℕ callee.the_row.coded shape_code))))))
    (λ a. (a.name, (a.constants, (a.parameters, (a.variables, (a.rules, a.schedule))))))
    (λ t. automaton_parts t.0 t.1.0 t.1.1.0 t.1.1.1.0 t.1.1.1.1.0 t.1.1.1.1.1)
    (λ _. refl)

-- a node's program: the number of the node, its automaton, the values of the automaton's parameters, those of the
-- state variables in the start state, and the first values of the schedule block's variables
pub record Parts : Type 0 where
  pub node : ℤ
  pub automaton : AutomatonParts
  pub arguments : List Data
  pub initial : List Data
  pub block : List Data

-- a program of these parts
abbrev pub parts : ℤ → AutomatonParts → List Data → List Data → List Data → Parts
parts n a args vs bs = record { node = n; automaton = a; arguments = args; initial = vs; block = bs }

-- the code of a program: a nest of pairs
abbrev pub parts_code : Coded Parts
parts_code =
    code_by (ℤ × (AutomatonParts × (List Data × (List Data × List Data))))
    (coded× coded_ℤ
    (coded× automaton_code (coded× (coded_list data_code) (coded× (coded_list data_code) (coded_list data_code)))))
    (λ p. (p.node, (p.automaton, (p.arguments, (p.initial, p.block)))))
    (λ t. parts t.0 t.1.0 t.1.1.0 t.1.1.1.0 t.1.1.1.1)
    (λ _. refl)
