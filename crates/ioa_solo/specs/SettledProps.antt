-- That a node is settled is said in one way at most (form).
use Rattle.std.specs.Prelude.{Option, Some, None}
use Rattle.std.proofs.Props.{props}
use Rattle.ioa_book.specs.Looks.{PlainSnapshot}
use Rattle.ioa_schedules.specs.StatementSets.{Option-set}
use Rattle.ioa_schedules.specs.StateSets.{AreStates-set}
use Rattle.ioa_turns.specs.NodeTurns.{PlainProgress}
use Rattle.ioa_solo.specs.Settled.{IsSettled, IsSettledIn}

pub IsSettledIn-prop : (p : PlainProgress) (o : Option PlainSnapshot) → IsProp (IsSettledIn p o)
unfolding IsSettled IsSettledIn
IsSettledIn-prop p None = hlevel props
IsSettledIn-prop p (Some s) = Option-set AreStates-set _ _
