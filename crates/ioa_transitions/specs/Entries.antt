-- What a log holds of steps (form).
use Rattle.std.specs.Prelude.{List, [], map, refl}
use Rattle.std.specs.Coded.{Coded, code_by, coded×, coded_list}
use Rattle.ioa_values.specs.Data.{Data}
use Rattle.ioa_values.specs.contracts.value.Value as value
use Rattle.ioa_actions.specs.contracts.action.Action as action
use Rattle.ioa_actions.specs.declared.action.Action.{Action}

-- what a log holds of a step, enough to take the step again: its action, and the values that its effect chose, in order
pub record PlainEntry : Type 0 where
  pub action : Action
  pub chosen : List Data

abbrev pub entry : Action → List Data → PlainEntry
entry a vs = record { action = a; chosen = vs }

-- the entry of a step by an action that chooses nothing
abbrev pub entry_of : Action → PlainEntry
entry_of a = entry a []

abbrev pub entry_code : Coded PlainEntry
entry_code =
    code_by (Action × List Data) (coded× action.the_row.coded (coded_list value.the_row.coded))
    (λ e. (e.action, e.chosen)) (λ t. entry t.0 t.1) (λ _. refl)

-- the actions of entries, in order
abbrev pub actions_of : List PlainEntry → List Action
actions_of es = map (λ e. e.action) es
