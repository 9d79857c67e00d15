-- What a block sees, and what its turns come to (profile).
use Rattle.std.specs.Prelude.{ℕ, List}
use Rattle.ioa_values.specs.Data.{Data}
use Rattle.ioa_operators.specs.declared.shape.Shape.{Shape}
use Rattle.ioa_terms.specs.declared.callee.Callee.{Callee}
use Rattle.ioa_terms.specs.declared.environment.View.{View}
use Rattle.ioa_terms.specs.Bindings.{Bindings}
use Rattle.ioa_terms.specs.PlainTerm.{PlainStatements}
use Rattle.ioa_terms.specs.Resolved.{AreAllResolved}
use Rattle.ioa_terms.specs.View.{firing_of}
use Rattle.ioa_terms.specs.Views.{names_in_view, own_names}
use Rattle.ioa_schedules.specs.declared.turn.Turn.{Turn}
use Rattle.ioa_schedules.specs.declared.turn.Turn.TheVariants.{Fire, Idle, Done}
use Rattle.ioa_schedules.specs.Turns.{TurnResult, turn_result, fires, idle, done, IsAtFiring}

-- statements that assign the block's own variables alone, and read what is in view (profile)
abbrev pub AreResolvedIn : View → ℕ → PlainStatements ℕ Callee Shape → Type 0
AreResolvedIn v count todo = AreAllResolved todo (own_names v count) (names_in_view v)

-- what a turn comes to that leaves these statements to do and this environment, and a `fire` with these arguments
-- (profile)
abbrev pub turn_of : PlainStatements ℕ Callee Shape → Bindings → List Data → Turn → TurnResult
turn_of todo e vs (Fire f) = turn_result (fires (firing_of f.now).kind (firing_of f.now).action vs) todo e
turn_of todo e vs Idle = turn_result idle todo e
turn_of todo e vs Done = turn_result done todo e

-- a block whose turn ended at a `fire` still stands there, at that one (profile)
abbrev pub StandsAt : PlainStatements ℕ Callee Shape → Turn → Type 0
StandsAt todo (Fire f) = IsAtFiring (firing_of f.now) todo
StandsAt todo Idle = Unit {0}
StandsAt todo Done = Unit {0}
