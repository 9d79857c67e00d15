-- The action that a node keeps of its last firing (form).
use Rattle.std.specs.Prelude.{◌≡◌, ⊤, ℕ, Option, Some, None}
use Rattle.std.proofs.Props.{props}
use Rattle.ioa_actions.specs.ActionParts.{action_name, action_arguments}
use Rattle.ioa_actions.specs.contracts.action.Action as action
use Rattle.ioa_actions.specs.declared.action.Action.{Action}
use Rattle.ioa_system.specs.Numbered.{IsNumberOf}
use Rattle.ioa_system.specs.Parts.{Parts}
use Rattle.ioa_turns.specs.Fired.{action_fired}
use Rattle.ioa_turns.specs.declared.progress.LastFired.{LastFired}

-- an action and the number of its rule, as the code keeps them in an entry (view)
abbrev pub last_of : LastFired → ℕ × Action
last_of l = (l.rule, l.entry.action)

-- an action, if one is kept, is what its name and its arguments give at a node with this program, and is kept with the
-- number of its rule
abbrev pub IsFiredBy : Parts → Option (ℕ × Action) → Type 0
IsFiredBy p None = ⊤
IsFiredBy p (Some l) =
    IsNumberOf p.automaton.rules (action_name l.1) l.0 × (action_fired p (action_name l.1) (action_arguments l.1) ≡ l.1)

-- that is said in one way at most
pub IsFiredBy-prop : (p : Parts) (o : Option (ℕ × Action)) → IsProp (IsFiredBy p o)
IsFiredBy-prop p None = hlevel props
IsFiredBy-prop p (Some l) = hlevel (props, action.the_row.coded)
