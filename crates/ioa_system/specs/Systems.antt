-- The parts of a checked system, as plain data (view).
use Rattle.std.specs.Prelude.{ℕ, ℤ, List, Option, find, refl}
use Rattle.std.specs.Ordering.{int_eq}
use Rattle.std.specs.Coded.{Coded, code_by, coded×, coded_ℕ, coded_ℤ, coded_list}
use Rattle.ioa_actions.specs.declared.action.NodeAction.{NodeAction}
use Rattle.ioa_actions.specs.contracts.action.NodeAction as action
use Rattle.ioa_source.specs.declared.declaration.Channel.{Channel}
use Rattle.ioa_source.specs.contracts.declaration.Channel as channel
use Rattle.ioa_system.specs.Invariants.{InvariantParts, invariant_code}
use Rattle.ioa_system.specs.Parts.{Parts, parts_code}

-- a script: the number of its node, and the inputs that the environment has for the node, in order
pub record ScriptParts : Type 0 where
  pub node : ℤ
  pub stimuli : List NodeAction

-- a script of these parts
abbrev pub script_parts : ℤ → List NodeAction → ScriptParts
script_parts k xs = record { node = k; stimuli = xs }

-- the code of a script: a pair
abbrev pub script_code : Coded ScriptParts
script_code =
    code_by (ℤ × List NodeAction) (coded× coded_ℤ (coded_list action.the_row.coded))
    (λ s. (s.node, s.stimuli)) (λ t. script_parts t.0 t.1) (λ _. refl)

-- the script of node k, the first one if there are several
abbrev pub script_of : ℤ → List ScriptParts → Option ScriptParts
script_of k scripts = find (λ s. int_eq s.node k) scripts

-- the program of node k, the first one if there are several
abbrev pub program_numbered : ℤ → List Parts → Option Parts
program_numbered k ps = find (λ p. int_eq p.node k) ps

-- the names of the constants, the programs of the nodes from node 0 on, and the channels, scripts and invariants as
-- declared
pub record SystemParts : Type 0 where
  pub names : List (List ℕ)
  pub programs : List Parts
  pub channels : List Channel
  pub scripts : List ScriptParts
  pub invariants : List InvariantParts

-- a system of these parts
abbrev pub system : List (List ℕ) → List Parts → List Channel → List ScriptParts → List InvariantParts → SystemParts
system ns ps cs xs vs = record { names = ns; programs = ps; channels = cs; scripts = xs; invariants = vs }

-- the code of the parts: a nest of pairs
abbrev pub system_code : Coded SystemParts
system_code =
    code_by (List (List ℕ) × (List Parts × (List Channel × (List ScriptParts × List InvariantParts))))
    (coded× (coded_list (coded_list coded_ℕ))
    (coded× (coded_list parts_code)
    (coded× (coded_list channel.the_row.coded) (coded× (coded_list script_code) (coded_list invariant_code)))))
    (λ s. (s.names, (s.programs, (s.channels, (s.scripts, s.invariants)))))
    (λ t. system t.0 t.1.0 t.1.1.0 t.1.1.1.0 t.1.1.1.1)
    (λ _. refl)
