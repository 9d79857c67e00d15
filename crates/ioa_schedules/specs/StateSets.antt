-- That two blocks are the same is said in one way at most (form).
use Rattle.std.specs.Prelude.{◌≡◌, ℕ, List, [], ◌∷◌, refl}
use Rattle.std.proofs.Common.{ap}
use mathlib.Core.List.{is_set as List-set}
use base.Stored.{Coded-set}
use ghost.Sets.{retract_set}
use Rattle.ioa_values.specs.contracts.value.Value as value
use Rattle.ioa_operators.specs.declared.shape.Shape.{Shape}
use Rattle.ioa_terms.specs.declared.callee.Callee.{Callee}
use Rattle.ioa_terms.specs.PlainTerm.{PlainStatement, PlainStatements, no_statements, statement, statements_of}
use Rattle.ioa_schedules.specs.StatementSets.{AreStatements-set}
use Rattle.ioa_schedules.specs.States.{PlainState, PlainState-set}

-- statements as a list
list_of : PlainStatements ℕ Callee Shape → List (PlainStatement ℕ Callee Shape)
list_of no_statements = []
list_of (statement s ss) = s ∷ list_of ss

as_they_were : (ss : PlainStatements ℕ Callee Shape) → statements_of (list_of ss) ≡ ss
unfolding list_of
as_they_were no_statements = refl
as_they_were (statement s ss) = ap (statement s) (as_they_were ss)

-- the blocks
pub AreStates-set : IsSet PlainState
AreStates-set =
    PlainState-set (retract_set list_of statements_of as_they_were AreStatements-set)
    (List-set (Coded-set value.the_row.coded))
