-- The names that the states of an automaton have (form).
use Rattle.std.specs.Prelude.{ℕ, List, ◌++◌}
use Rattle.ioa_system.specs.InView.{parameter_names, variable_names}
use Rattle.ioa_system.specs.Parts.{AutomatonParts}

-- the names of the state variables, and behind them those of the parameters
abbrev pub state_names : AutomatonParts → List (List ℕ)
state_names a = variable_names a.variables ++ parameter_names a.parameters
