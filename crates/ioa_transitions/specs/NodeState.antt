-- The configuration of a node (Lynch 8.1).
use Rattle.std.specs.Prelude.{◌≡◌, List, length, refl}
use Rattle.std.specs.Coded.{Coded, code_by, coded×, coded_list}
use Rattle.ioa_values.specs.Data.{Data}
use Rattle.ioa_system.specs.Parts.{Parts, parts_code}
use Rattle.ioa_values.specs.contracts.value.Value as value

-- a program and the values of its state variables
pub record NodeState : Type 0 where
  pub program : Parts
  pub variables : List Data

abbrev pub node_state : Parts → List Data → NodeState
node_state p vs = record { program = p; variables = vs }

abbrev pub node_state_code : Coded NodeState
node_state_code =
    code_by (Parts × List Data) (coded× parts_code (coded_list value.the_row.coded))
    (λ c. (c.program, c.variables)) (λ p. node_state p.0 p.1) (λ _. refl)

-- there is a value for each variable
abbrev pub IsValued : NodeState → Type 0
IsValued c = length c.variables ≡ length c.program.automaton.variables
